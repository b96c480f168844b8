use Rattle.std.proofs.Common.{◌≡◌, ◌≤◌, ◌∙◌, ◌+◌, ◌-◌, ◌++◌, ℕ, List, take, drop, length, subst, sym, ap, arith, rules, length-take}
use Rattle.std.specs.Vec.{with_items}
use Rattle.std.proofs.lemmas.List.{with_items_is}
use Rattle.vector_text.specs.Feeding.{Window, given}
use Rattle.vector_text.proofs.Windows.{given_into}
use Rattle.vector_text.proofs.feed.Feed.give.Goals as goal

pub returns : goal.returns
returns c =
    let i = c.self.inside in
    let at = c.make_way-at.result.0 in
    let end = c.make_way-at.result.1 in
    let n = c.within-count.result in
    let piece = c.args.piece.now in
    let b = c.deref_mut-2.result.now in
    let b' = c.put_at.new.out in
    let made = with_items_is i.buffer c.make_way-at.new.buffer (c.make_way-at.auto.buffer ∙ c.deref_mut.ensures.len) in
    let v = with_items i.buffer c.make_way-at.new.buffer in
    let filled = with_items_is v b' (c.put_at.auto.out ∙ c.deref_mut-2.ensures.len) in
    let was : take (i.end - i.at) (drop i.at i.buffer.items) ≡ take (end - at) (drop at b) =
    sym (ap (λ (x : List ℕ). take (end - at) (drop at x)) c.deref_mut-2.ensures.value ∙ (ap (λ (x : List ℕ). take (end - at) (drop at x)) made
    ∙ (c.make_way-at.ensures.same ∙ ap (λ (x : List ℕ). take (i.end - i.at) (drop i.at x)) c.deref_mut.ensures.value))) in
    let long : length (take n piece) ≡ n = omega (arith, length-take n piece, c.within-count.ensures) in
    let front : take (end + n) b' ≡ take end b ++ take n piece = subst (λ (k : ℕ). take (end + k) b' ≡ take end b ++ take n piece) long c.put_at.ensures.front in
    let fits : end ≤ length b = search rules in
    subst (λ (w : Window). ◌≡◌ {A = Window} (record { ahead = take (end + n - at) (drop at (with_items v b').items); room = c.room_behind-self-inside.result }) (given piece w)) c.self.view_is
    (given_into b b' piece at end n i.room c.room_behind-self-inside.result _ _ c.make_way-at.ensures.order fits front c.within-count.ensures was
    (ap (λ (x : List ℕ). take (end + n - at) (drop at x)) filled) c.room_behind-self-inside.ensures.none c.room_behind-self-inside.ensures.some)
