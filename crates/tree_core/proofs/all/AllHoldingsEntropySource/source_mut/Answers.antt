use Rattle.std.proofs.Common.{◌≡◌, ℕ, ◌-◌, ◌<◌, length, Bool, true, false, nat_lt, refl, sym, ap, ◌∙◌, subst}
use Rattle.std.specs.Prelude.{Some, None, slice_get, IsSome, if◌then◌else◌}
use Rattle.std.specs.Vec.{with_item}
use Rattle.std.proofs.lemmas.Option.{slice_get_read}
use Rattle.tree_core.specs.AllLaws.{some_within}
use Rattle.tree_core.proofs.all.AllHoldingsEntropySource.source_mut.Goals as goal

pub returns : goal.returns
returns g c =
    let h = c.args.self.now in
    let len : c.len.result ≡ length c.args.self.now.nodes.items = c.len.ensures ∙ c.args.self.now.nodes.ok.0 in
    ((refl, λ w. ap (λ (n : ℕ). record h { sources = with_item h.sources (c.args.slot - n) w }) len), record { after = tt; value = by len (nat_lt c.args.slot (length c.args.self.now.nodes.items)) c.requires })
  where
    by : c.len.result ≡ length c.args.self.now.nodes.items → (b : Bool) → IsSome (if b then None else slice_get c.args.self.now.sources.items (c.args.slot - length c.args.self.now.nodes.items))
        → (if b then None else slice_get c.args.self.now.sources.items (c.args.slot - length c.args.self.now.nodes.items)) ≡ Some c.index_mut.result.now
    by len true is = absurd (let e : false ≡ true = is in cc)
    by len false is = ap (λ n. slice_get c.args.self.now.sources.items (c.args.slot - n)) (sym len)
        ∙ slice_get_read c.args.self.now.sources.items _ _ c.index_mut.result.now refl
        (subst (λ n. c.args.slot - n < length c.args.self.now.sources.items) (sym len) (some_within c.args.self.now.sources.items (c.args.slot - length c.args.self.now.nodes.items) is)) c.index_mut.ensures.value
