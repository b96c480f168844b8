use Rattle.std.proofs.Common.{◌≡◌, ◌≤◌, ◌<◌, ◌∙◌, ◌+◌, ◌-◌, ℕ, List, take, drop, length, subst, sym, ap, arith, rules, length-drop}
use Rattle.std.specs.Vec.{with_items}
use Rattle.std.proofs.lemmas.List.{with_items_is}
use Rattle.vector_text.specs.Feeding.{Window, Grows}
use Rattle.vector_text.proofs.Windows.{read_failed, read_into}
use Rattle.vector_text.proofs.feed.Feed.read_more.Goals as goal

pub returns-in-Ok-clause-grows : goal.returns-in-Ok-clause-grows
returns-in-Ok-clause-grows g c =
    let i = c.self.inside in
    let at = c.make_room-at.result.0 in
    let end = c.make_room-at.result.1 in
    let n = c.in-Ok.count in
    let b = c.deref_mut-2.result.now in
    let b' = c.read_part.new.buffer in
    let left = g.I.ByteSource.left c.args.input.now in
    let left' = g.I.ByteSource.left c.read_part.new.input in
    let made = with_items_is i.buffer c.make_room-at.new.buffer (c.make_room-at.auto.buffer ∙ c.deref_mut.ensures.len) in
    let v = with_items i.buffer c.make_room-at.new.buffer in
    let filled = with_items_is v b' (c.read_part.auto.buffer ∙ c.deref_mut-2.ensures.len) in
    let was : take (i.end - i.at) (drop i.at i.buffer.items) ≡ take (end - at) (drop at b) =
    sym (ap (λ (x : List ℕ). take (end - at) (drop at x)) c.deref_mut-2.ensures.value ∙ (ap (λ (x : List ℕ). take (end - at) (drop at x)) made
    ∙ (c.make_room-at.ensures.same ∙ ap (λ (x : List ℕ). take (i.end - i.at) (drop i.at x)) c.deref_mut.ensures.value))) in
    let long : length b' ≡ 65536 = search rules in
    let within : n ≤ length (drop end b') = omega (arith, c.in-Ok.ensures.bound, c.asked_for-most.ensures.free, length-drop end b', long) in
    let some : 0 < length (drop end b') = omega (arith, c.asked_for-most.ensures.free, c.asked_for-most.ensures.some, length-drop end b', long) in
    subst (λ (w : Window). Grows left w left' (record { ahead = take (end + n - at) (drop at (with_items v b').items); room = c.room_behind-room.result })) c.self.view_is
    (read_into left left' b b' at end n i.room c.room_behind-room.result _ _ c.make_room-at.ensures.order c.in-Ok.ensures.front was
    (ap (λ (x : List ℕ). take (end + n - at) (drop at x)) filled) within
    (omega (arith, c.in-Ok.ensures.bound, c.asked_for-most.ensures.room)) c.in-Ok.ensures.bytes.0 (λ e. c.in-Ok.ensures.bytes.1 e some) c.in-Ok.ensures.untold
    c.room_behind-room.ensures.none c.room_behind-room.ensures.some)

pub returns-in-Err-clause-grows : goal.returns-in-Err-clause-grows
returns-in-Err-clause-grows g c =
    let i = c.self.inside in
    let at = c.make_room-at.result.0 in
    let end = c.make_room-at.result.1 in
    let b = c.deref_mut-2.result.now in
    let b' = c.read_part.new.buffer in
    let left = g.I.ByteSource.left c.args.input.now in
    let left' = g.I.ByteSource.left c.read_part.new.input in
    let made = with_items_is i.buffer c.make_room-at.new.buffer (c.make_room-at.auto.buffer ∙ c.deref_mut.ensures.len) in
    let v = with_items i.buffer c.make_room-at.new.buffer in
    let filled = with_items_is v b' (c.read_part.auto.buffer ∙ c.deref_mut-2.ensures.len) in
    let was : take (i.end - i.at) (drop i.at i.buffer.items) ≡ take (end - at) (drop at b) =
    sym (ap (λ (x : List ℕ). take (end - at) (drop at x)) c.deref_mut-2.ensures.value ∙ (ap (λ (x : List ℕ). take (end - at) (drop at x)) made
    ∙ (c.make_room-at.ensures.same ∙ ap (λ (x : List ℕ). take (i.end - i.at) (drop i.at x)) c.deref_mut.ensures.value))) in
    subst (λ (w : Window). Grows left w left' (record { ahead = take (end - at) (drop at (with_items v b').items); room = i.room })) c.self.view_is
    (read_failed left left' b b' at end i.room _ _ c.make_room-at.ensures.order c.in-Err.ensures.front was
    (ap (λ (x : List ℕ). take (end - at) (drop at x)) filled) c.in-Err.ensures.bytes c.in-Err.ensures.untold)
