use Rattle.std.proofs.Common.{◌≡◌, ◌∙◌, ◌≤◌, ◌++◌, ℕ, List, length, take, Option, Ok, refl, subst, sym, ap, arith}
use Rattle.std.proofs.lemmas.List.{with_items_is}
use Rattle.rbg_bytes.specs.declared.stream.Failed.{Failed}
use Rattle.vector_replay.specs.Replaying.{EndsBehind, GoesOn, HasWriteCause, room_behind}
use Rattle.rbgtree.specs.Check.{HasCheckCause}
use Rattle.rbgtree.specs.Files.{Entries, ReadsFile}
use Rattle.rbgtree.specs.Replay.{Replays, status_by}
use Rattle.rbgtree.specs.declared.status.Status.{Status}
use Rattle.rbgtree.proofs.Replayed.{between_ends, between_first, between_less, between_next, between_stops, cause_fed}
use Rattle.rbgtree.proofs.replaying.run_replay.Goals as goal

pub pieces-init : goal.pieces-init
pieces-init g c = (
  between_first (g.W.World.files c.args.world.now) c.args.family c.args.name.now (g.O.ByteSink.out c.args.output.now) c.in-Ok.replaying c.in-Ok.ensures,
  omega (arith, c.in-Ok-vec.ensures.len, c.in-Ok-vec.piece.ok.0),
  refl,
  refl,
  refl,
  refl,
)

pub returns-in_default-read_file-clause-replays : goal.returns-in_default-read_file-clause-replays
returns-in_default-read_file-clause-replays g c =
    between_stops (g.W.World.files c.args.world.now) c.args.family c.args.name.now (g.O.ByteSink.out c.args.output.now) (g.O.ByteSink.out c.pieces.output) c.pieces.place
    c.fault_count.result (g.W.World.faults c.read_file.new.self) c.pieces.replaying c.pieces.invariant.0 c.fault_count.ensures

pub returns-in-Some-clause-replays : goal.returns-in-Some-clause-replays
returns-in-Some-clause-replays g c =
    let files = g.W.World.files c.args.world.now in
    let name = c.args.name.now in
    let before = g.O.ByteSink.out c.args.output.now in
    let now = g.O.ByteSink.out c.pieces.output in
    let now' = g.O.ByteSink.out c.feed.new.output in
    let p = c.pieces.replaying in
    let p' = c.feed.new.self in
    let buf = c.read_file.new.buf in
    let n = c.in-Ok-read_file.count in
    let inv = c.pieces.invariant in
    let b = inv.0 in
    let read = subst (λ (f : Option Entries). ReadsFile {E = Failed} f name c.pieces.place (Ok n) buf) inv.2 c.in-Ok-read_file.ensures.bytes in
    let within : n ≤ length buf = c.in-Ok-read_file.ensures.bound.0 in
    let made = with_items_is c.pieces.piece buf (c.read_file.auto.buf ∙ c.deref_mut.ensures.len) in
    let piece : take n c.deref.result.now ≡ take n buf = ap (take n) (c.deref.ensures.value ∙ made) in
    let more = subst (λ (x : List ℕ). p'.reader.window.room ≡ room_behind x p) piece c.in-Some.ensures.more in
    let ended = c.in-Some.ended in
    let world = g.W.World.faults c.read_file.new.self in
    let ends = subst (λ (x : List ℕ). EndsBehind c.args.family (b.text ++ take p.reader.window.room x) p'.reader.window.room before now' ended) piece
    (c.in-Some.ensures.fed c.args.family b.text before b.goes.stands) in
    subst (λ (s : Status). Replays files c.args.family name world before now' s) (sym c.status_by.ensures)
    (between_ends Failed files c.args.family name before now now' c.pieces.place n buf p p' b read within more world ended ends)

pub returns-in-Some-clause-cause : goal.returns-in-Some-clause-cause
returns-in-Some-clause-cause g c =
    let inv = c.pieces.invariant in
    let world = g.W.World.faults c.args.world.now in
    let out = g.O.ByteSink.faults c.args.output.now in
    let out' = g.O.ByteSink.faults c.feed.new.output in
    let write = subst (λ (k : ℕ). HasWriteCause k out' c.in-Some.ended) inv.5 c.in-Some.ensures.cause in
    subst (λ (s : Status). HasCheckCause world (g.W.World.faults c.read_file.new.self) out out' s) (sym c.status_by.ensures)
    (subst (λ (k : ℕ). HasCheckCause world k out out' (status_by c.in-Some.ended)) (sym (c.in-Ok-read_file.ensures.cause.kept ∙ inv.4))
    (cause_fed world out out' c.in-Some.ended c.in-Some.ensures.read write))

pub pieces-smaller : goal.pieces-smaller
pieces-smaller g c =
    let files = g.W.World.files c.args.world.now in
    let name = c.args.name.now in
    let before = g.O.ByteSink.out c.args.output.now in
    let now = g.O.ByteSink.out c.pieces.output in
    let now' = g.O.ByteSink.out c.feed.new.output in
    let p = c.pieces.replaying in
    let p' = c.feed.new.self in
    let buf = c.read_file.new.buf in
    let n = c.in-Ok-read_file.count in
    let inv = c.pieces.invariant in
    let b = inv.0 in
    let read = subst (λ (f : Option Entries). ReadsFile {E = Failed} f name c.pieces.place (Ok n) buf) inv.2 c.in-Ok-read_file.ensures.bytes in
    let within : n ≤ length buf = c.in-Ok-read_file.ensures.bound.0 in
    let made = with_items_is c.pieces.piece buf (c.read_file.auto.buf ∙ c.deref_mut.ensures.len) in
    let piece : take n c.deref.result.now ≡ take n buf = ap (take n) (c.deref.ensures.value ∙ made) in
    let more = subst (λ (x : List ℕ). p'.reader.window.room ≡ room_behind x p) piece c.in_default-feed.ensures.more in
    let goes = subst (λ (x : List ℕ). GoesOn c.args.family (b.text ++ take p.reader.window.room x) before p' now') piece (c.in_default-feed.ensures.fed c.args.family b.text before b.goes.stands) in
    between_less Failed files c.args.family name before now now' c.pieces.place n buf p p' b read within more goes

pub pieces-preserved : goal.pieces-preserved
pieces-preserved g c =
    let files = g.W.World.files c.args.world.now in
    let name = c.args.name.now in
    let before = g.O.ByteSink.out c.args.output.now in
    let now = g.O.ByteSink.out c.pieces.output in
    let now' = g.O.ByteSink.out c.feed.new.output in
    let p = c.pieces.replaying in
    let p' = c.feed.new.self in
    let buf = c.read_file.new.buf in
    let n = c.in-Ok-read_file.count in
    let inv = c.pieces.invariant in
    let b = inv.0 in
    let read = subst (λ (f : Option Entries). ReadsFile {E = Failed} f name c.pieces.place (Ok n) buf) inv.2 c.in-Ok-read_file.ensures.bytes in
    let within : n ≤ length buf = c.in-Ok-read_file.ensures.bound.0 in
    let made = with_items_is c.pieces.piece buf (c.read_file.auto.buf ∙ c.deref_mut.ensures.len) in
    let piece : take n c.deref.result.now ≡ take n buf = ap (take n) (c.deref.ensures.value ∙ made) in
    let more = subst (λ (x : List ℕ). p'.reader.window.room ≡ room_behind x p) piece c.in_default-feed.ensures.more in
    let goes = subst (λ (x : List ℕ). GoesOn c.args.family (b.text ++ take p.reader.window.room x) before p' now') piece (c.in_default-feed.ensures.fed c.args.family b.text before b.goes.stands) in (
      between_next Failed files c.args.family name before now now' c.pieces.place n buf p p' b read within more goes,
      ap length made ∙ (c.read_file.auto.buf ∙ (ap length c.deref_mut.ensures.value ∙ inv.1)),
      c.in-Ok-read_file.ensures.files ∙ inv.2,
      c.in-Ok-read_file.ensures.recordings ∙ inv.3,
      c.in-Ok-read_file.ensures.cause.kept ∙ inv.4,
      c.in_default-feed.ensures.cause ∙ inv.5,
    )
