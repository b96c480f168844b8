use Rattle.std.proofs.Common.{◌≡◌, ℕ, ◌<◌, ◌≤◌, List, [], ◌∷◌, ◌++◌, length, map, IfSome, Option, Some, None, arith, length-append, append_assoc, below_more, refl, sym, ap, ◌∙◌, rules, subst, append-nil, inl, inr}
use Rattle.std.specs.Vec.Iter.{into_iter_items}
use Rattle.std.proofs.lemmas.Bool.{cases_lt}
use Rattle.tree_config.proofs.Paths.{no_parent_past}
use Rattle.std.proofs.lemmas.List.{length-map, map-append, nil_from_length}
use Rattle.tree_config.specs.declared.row.NodeRow.{NodeRow}
use Rattle.tree_config.specs.declared.plan.NodePlan.{NodePlan}
use Rattle.tree_config.specs.Graph.{parent_at, LacksParent, IsLeast}
use Rattle.tree_config.specs.Tree.{parents, parent_in, node_of_row}
use Rattle.tree_config.proofs.plans.plans.Goals as goal

abbrev links : List NodeRow → List (Option ℕ)
links rows = parents (map node_of_row rows)

link_here : (done : List NodeRow) (r : NodeRow) (rest : List NodeRow) → parent_at (links (done ++ r ∷ rest)) (length done) ≡ parent_in (node_of_row r).origin
link_here [] r rest = refl
link_here (d ∷ done) r rest = link_here done r rest

-- the first row whose parent isn't there
orphan : (rows done : List NodeRow) (r : NodeRow) (rest : List NodeRow) (n q : ℕ) → rows ≡ done ++ r ∷ rest → n ≡ length done
    → parent_in (node_of_row r).origin ≡ Some q → length rows ≤ q → ((k : ℕ) → k < n → ¬ LacksParent (links rows) k)
    → IsLeast (LacksParent (links rows)) n × (parent_at (links rows) n ≡ Some q)
orphan rows done r rest n q whole at found past before =
    let here : parent_at (links rows) n ≡ Some q = rw (whole, at) (link_here done r rest ∙ found) in
    let size : length (links rows) ≡ length rows = length-map (map node_of_row rows) _ ∙ length-map rows _ in
    (record { holds = (q, here, omega arith); least = before }, here)

kept : (rows done : List NodeRow) (r : NodeRow) (rest : List NodeRow) (n count : ℕ) → rows ≡ done ++ r ∷ rest → n ≡ length done
    → IfSome (parent_in (node_of_row r).origin) (λ q. q < count) → count ≡ length rows → ¬ LacksParent (links rows) n
kept rows done r rest n count whole at some all (q, here, past) =
    let size : length (links rows) ≡ length rows = length-map (map node_of_row rows) _ ∙ length-map rows _ in
    let found : parent_in (node_of_row r).origin ≡ Some q = sym (link_here done r rest) ∙ rw (← whole, ← at) here in
    let few : q < count = subst (λ (o : Option ℕ). IfSome o (λ q. q < count)) found some in
    omega (arith, few)

nothing_left : (rows done rest : List NodeRow) → rows ≡ done ++ rest → length rows ≡ length done → rows ≡ done
nothing_left rows done rest whole size =
    let none : length rest ≡ 0 = omega (arith, length-append done rest, ap length whole) in
    whole ∙ rw (nil_from_length rest none) (append-nil done)

none_past : (rows : List NodeRow) (n : ℕ) → LacksParent (links rows) n → n < length rows
none_past rows n lacks =
    let size : length (links rows) ≡ length rows = length-map (map node_of_row rows) _ ∙ length-map rows _ in
    elim (cases_lt n (length rows)) [ inl within ↦ within | inr past ↦ let no_link = no_parent_past (links rows) n (omega arith) in let none : None ≡ Some lacks.0 = sym no_link ∙ lacks.1 in cc ]

pub returns-in-Err : goal.returns-in-Err
returns-in-Err c =
    let l = c.loop-row in
    let (whole, made, at, count, before) = l.invariant in
    let rest = into_iter_items c.next.new.self in
    let all : c.args.rows.items ≡ l.yielded ++ c.in-Some.row ∷ rest = whole ∙ ap (λ xs. l.yielded ++ xs) c.in-Some.ensures.steps.0 in
    let missing = c.in-Err.ensures in
    let size : c.len-count.result ≡ length c.args.rows.items = search rules in
    orphan c.args.rows.items l.yielded c.in-Some.row rest l.n c.in-Err.parent all at missing.0 (omega (arith, missing.1)) before

pub loop-row-preserved : goal.loop-row-preserved
loop-row-preserved c =
    let l = c.loop-row in
    let (whole, made, at, count, before) = l.invariant in
    let rest = into_iter_items c.next.new.self in
    let all : c.args.rows.items ≡ l.yielded ++ c.in-Some.row ∷ rest = whole ∙ ap (λ xs. l.yielded ++ xs) c.in-Some.ensures.steps.0 in
    let good = c.in-Ok.ensures in
    let size : c.len-count.result ≡ length c.args.rows.items = search rules in
    let items : c.push.new.self.items ≡ l.plans.items ++ c.in-Ok.plan ∷ [] = search rules in
    let here = kept c.args.rows.items l.yielded c.in-Some.row rest l.n c.len-count.result all at (subst (λ (p : NodePlan). IfSome (parent_in p.origin) (λ q. q < c.len-count.result)) good.0 good.1) size in (
      all ∙ sym (append_assoc l.yielded (c.in-Some.row ∷ []) rest),
      items ∙ rw (made, good.0) (sym (map-append node_of_row l.yielded (c.in-Some.row ∷ []))),
      omega (arith, at, length-append l.yielded (c.in-Some.row ∷ [])),
      omega (arith, count, c.in-Some.ensures.steps.1),
      below_more _ _ before here,
    )

pub returns : goal.returns
returns c =
    let l = c.loop-row in
    let (whole, made, at, count, before) = l.invariant in
    let end = c.in-None.ensures.steps.0 in
    let same : c.args.rows.items ≡ l.yielded = nothing_left c.args.rows.items l.yielded (into_iter_items l.row-iterator) whole (omega (arith, at, count, end)) in
    let done : l.plans.items ≡ map node_of_row c.args.rows.items = made ∙ ap (map node_of_row) (sym same) in
    (done, λ n. rw done (λ lacks. before n (let within = none_past c.args.rows.items n lacks in omega (arith, at, count, end, ap length same)) lacks))
