-- The work of a chain in one step more: a node over the links of its parent.
use Rattle.std.proofs.Common.{◌≡◌, ◌≢◌, ◌∙◌, ◌∷◌, ◌++◌, ◌-◌, ℕ, List, [], zero, suc, Bool, true, false, map, refl, sym, ap, subst, append_assoc, arith}
use Rattle.std.specs.Prelude.{if◌then◌else◌, Option, Some, None, Result, Ok, Err, MatchResult}
use Rattle.tree_config.specs.Tree.{Tree, parent_in}
use Rattle.tree_config.specs.declared.plan.Origin.{Origin}
use Rattle.tree_config.specs.declared.plan.Origin.TheVariants.{SeedFile, Source, Parent}
use Rattle.entropy_source.specs.declared.answers.SourceRefusal.{SourceRefusal}
use Rattle.entropy_source.specs.Draws.{portions}
use Rattle.tree_rules.specs.declared.reply.Reply.{Reply}
use Rattle.tree_rules.specs.Slots.{node_plan}
use Rattle.tree_rules.specs.History.{Act, States, own, has}
use Rattle.tree_rules.specs.Links.{Task, Seeds, Gives, Rests, Link, link, last_link, must_seed, asks_parent, seeding_len, is_rs, is_xor, wanted}
use Rattle.tree_rules.specs.Chain.{SourceLink, slots_of_source}
use Rattle.tree_rules.specs.Works.{Work, worked, task_work, given_work, material}
use Rattle.tree_rules.specs.Fits.{at_source, source_reply}
use Rattle.tree_rules.proofs.Leaves.{slots, own_sources, own_worked, own_both}
use Rattle.tree_acts.specs.Chained.{links_from}
use Rattle.tree_acts.specs.Work.{Works, seeded_part}

-- a child's own part is that of a node seeded with what its parent gave
module _ (pr : Bool) (drawn : List (List ℕ)) (string above : List ℕ) (l : Link) (q : ℕ) (parent : parent_in l.origin ≡ Some q)
    (rs : is_rs l.row.kind ≡ false) (xor : is_xor l.row.kind ≡ false) where
  stuff_is : (o : Origin) → l.origin ≡ o → parent_in o ≡ Some q → material l drawn above ≡ above
  stuff_is (SeedFile name) e h = cc
  stuff_is (Source j) e h = cc
  stuff_is (Parent r) e h = rw e refl

  gives_is : (len : ℕ) (must : Bool) → must ≡ true → (r x : Bool) → r ≡ false → x ≡ false → (w : Work)
      → (if r then w else (if x then record (given_work l must (material l drawn above) string len) { bytes = [] } else given_work l must (material l drawn above) string len))
      ≡ given_work l true above string len
  gives_is len must m r x e f w = rw (e, f, m, stuff_is l.origin refl parent) refl

  pub child_part : (task : Task) → task ≡ l.task → must_seed pr l ≡ true → task_work pr drawn string l above task ≡ seeded_part l above string task
  child_part (Seeds how) t m = rw (stuff_is l.origin refl parent) refl
  child_part (Gives len) t m = rw (rs, xor, m, stuff_is l.origin refl parent) refl
  child_part Rests t m = refl

-- the work over one link more, once the links above it have done theirs
module _ (pr : Bool) (string : List ℕ) (l m : Link) (up : List Link) where
  pub over : (source : Option SourceLink) (above : List ℕ) (acts : List Act) (mine : Work)
      → ((drawn : List (List ℕ)) → task_work pr drawn string l above l.task ≡ mine)
      → Works pr [] (m ∷ up) source None above acts → Works pr string (l ∷ m ∷ up) source None mine.bytes (acts ++ mine.acts)
  over None above acts mine is (a, b, c) =
      let w = worked pr [] [] (m ∷ up) in
      let e : task_work pr [] string l w.bytes l.task ≡ mine = subst (λ z. task_work pr [] string l z l.task ≡ mine) c (is []) in
      (refl, ap (λ z. z ++ mine.acts) b ∙ ap (λ (x : Work). w.acts ++ x.acts) (sym e), ap (λ (x : Work). x.bytes) (sym e))
  over (Some t) above acts mine is (drawn, end, d, rest) = (drawn, end, d, by end rest) where
    by : (end : Result (List ℕ) SourceRefusal)
        → MatchResult end
        (λ all. let w = worked pr (portions t.row (wanted pr (last_link (m ∷ up))) all) [] (m ∷ up) in
        (◌≡◌ {A = Option Reply} None None) × (acts ≡ map (at_source t) drawn ++ w.acts) × (above ≡ w.bytes))
        (λ why. (◌≡◌ {A = Option Reply} None (Some (source_reply t.number why))) × (acts ≡ map (at_source t) drawn))
        → MatchResult end
        (λ all. let w = worked pr (portions t.row (wanted pr (last_link (m ∷ up))) all) string (l ∷ m ∷ up) in
        (◌≡◌ {A = Option Reply} None None) × (acts ++ mine.acts ≡ map (at_source t) drawn ++ w.acts) × (mine.bytes ≡ w.bytes))
        (λ why. (◌≡◌ {A = Option Reply} None (Some (source_reply t.number why))) × (acts ++ mine.acts ≡ map (at_source t) drawn))
    by (Err why) (a, b) = cc
    by (Ok all) (a, b, c) =
        let strings = portions t.row (wanted pr (last_link (m ∷ up))) all in
        let w = worked pr strings [] (m ∷ up) in
        let e : task_work pr strings string l w.bytes l.task ≡ mine = subst (λ z. task_work pr strings string l z l.task ≡ mine) c (is strings) in
        (refl, ap (λ z. z ++ mine.acts) b ∙ (append_assoc (map (at_source t) drawn) w.acts mine.acts ∙ ap (λ (x : Work). map (at_source t) drawn ++ (w.acts ++ x.acts)) (sym e)), ap (λ (x : Work). x.bytes) (sym e))

  -- a refusal of the source is one for all links
  pub refused_too : (source : Option SourceLink) (r : Reply) (above bytes : List ℕ) (acts : List Act)
      → Works pr [] (m ∷ up) source (Some r) above acts → Works pr string (l ∷ m ∷ up) source (Some r) bytes acts
  refused_too None r above bytes acts (a, b, c) = cc
  refused_too (Some t) r above bytes acts (drawn, end, d, rest) = (drawn, end, d, by end rest) where
    by : (end : Result (List ℕ) SourceRefusal)
        → MatchResult end
        (λ all. let w = worked pr (portions t.row (wanted pr (last_link (m ∷ up))) all) [] (m ∷ up) in
        (Some r ≡ None) × (acts ≡ map (at_source t) drawn ++ w.acts) × (above ≡ w.bytes))
        (λ why. (Some r ≡ Some (source_reply t.number why)) × (acts ≡ map (at_source t) drawn))
        → MatchResult end
        (λ all. let w = worked pr (portions t.row (wanted pr (last_link (m ∷ up))) all) string (l ∷ m ∷ up) in
        (Some r ≡ None) × (acts ≡ map (at_source t) drawn ++ w.acts) × (bytes ≡ w.bytes))
        (λ why. (Some r ≡ Some (source_reply t.number why)) × (acts ≡ map (at_source t) drawn))
    by (Err why) h = h
    by (Ok all) (a, b, c) = cc

-- acts of the work of links leave other slots alone
pub own_works : (k : ℕ) (pr : Bool) (string : List ℕ) (ls : List Link) (source : Option SourceLink) (result : Option Reply) (bytes : List ℕ) (acts : List Act)
    → has (slots ls) k ≡ false → has (slots_of_source source) k ≡ false → Works pr string ls source result bytes acts → own k acts ≡ []
own_works k pr string ls None result bytes acts h i (a, b, c) = ap (own k) b ∙ own_worked k pr [] string ls h
own_works k pr string ls (Some t) result bytes acts h i (drawn, end, d, rest) = by end rest where
  by : (end : Result (List ℕ) SourceRefusal)
      → MatchResult end
      (λ all. let w = worked pr (portions t.row (wanted pr (last_link ls)) all) string ls in
      (result ≡ None) × (acts ≡ map (at_source t) drawn ++ w.acts) × (bytes ≡ w.bytes))
      (λ why. (result ≡ Some (source_reply t.number why)) × (acts ≡ map (at_source t) drawn))
      → own k acts ≡ []
  by (Ok all) (a, b, c) = ap (own k) b
      ∙ own_both k (map (at_source t) drawn) (worked pr (portions t.row (wanted pr (last_link ls)) all) string ls).acts
      (own_sources k t drawn i) (own_worked k pr (portions t.row (wanted pr (last_link ls)) all) string ls h)
  by (Err why) (a, b) = ap (own k) b ∙ own_sources k t drawn i

-- where a node asks its parent, the links from it on are the node and those from its parent on
pub links_step : (p : Tree) (s : States) (pr : Bool) (task : Task) (far n q : ℕ) → far ≢ 0 → asks_parent pr (link p n task (s n)) ≡ true
    → parent_in (node_plan p n).origin ≡ Some q
    → links_from p s pr task far n ≡ link p n task (s n) ∷ links_from p s pr (Gives (seeding_len (link p n task (s n)))) (far - 1) q
links_step p s pr task zero n q more asks is = absurd (more refl)
links_step p s pr task (suc far) n q more asks is = let e : suc far - 1 ≡ far = omega arith in rw (asks, is, e) refl

-- where it asks none, it is the only one
pub links_end : (p : Tree) (s : States) (pr : Bool) (task : Task) (far n : ℕ) → asks_parent pr (link p n task (s n)) ≡ false
    → links_from p s pr task far n ≡ link p n task (s n) ∷ []
links_end p s pr task far n asks = rw asks refl
