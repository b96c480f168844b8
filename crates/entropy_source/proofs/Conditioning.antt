-- A block from its samples, and blocks one after another.
use Rattle.std.proofs.Common.{◌≡◌, ◌+◌, ℕ, suc, List, [], ◌∷◌, ◌++◌, length, refl, sym, ap, ◌∙◌, subst, arith, append_assoc, append-nil, suc-mul}
use Rattle.std.specs.Prelude.{Option, Some, Ok, Err}
use Rattle.health_tests.specs.declared.windows.Alarm.{Alarm}
use Rattle.health_tests.specs.declared.numbers.Tail.{Tail}
use Rattle.health_tests.specs.Numbers.{tail_after}
use Rattle.rbg_bytes.specs.declared.cond.Cond.{Cond}
use Rattle.conditioner.specs.Conditioned.{conditioned, block_len}
use Rattle.conditioner.proofs.Blocks.{length-conditioned}
use Rattle.conditioner.specs.Holds.{HoldsSamples}
use Rattle.conditioner.specs.declared.block.Block as held
use Rattle.entropy_source.specs.declared.answers.SourceRow.{SourceRow}
use Rattle.entropy_source.specs.declared.answers.SourceRefusal.{SourceRefusal}
use Rattle.entropy_source.specs.Source.{SourceAct, Block, SourceState, source_after, source_after_all, need_of_block}
use Rattle.entropy_source.specs.Draws.{Draws, found_in}
use Rattle.entropy_source.specs.Views.{SourceView, source_state}
use Rattle.entropy_source.specs.Scaffolding.{Leads, Stops, LeadsBlocks, StopsBlocks}
use Rattle.entropy_source.proofs.Joining.{to_itself, to_on, tail_append, left_before, leads_none, leads_more, leads_stops, gathered_all}

-- The samples of one block, as they are pushed into it.
module _ {S : Type 0} (told : S → Option (List ℕ)) (faults : S → ℕ) (reads : S → ℕ → Option (List ℕ) → S → Type 0) (row : SourceRow) (v : SourceView S) where
  abbrev pub Held : SourceView S → held.Block → ℕ → Type 0
  Held w block left = (got : List ℕ) × Leads told faults reads row v w (need_of_block row) left got × HoldsSamples block row.cond (need_of_block row) got

  pub held_none : (block : held.Block) (cond : Cond) (total : ℕ) → cond ≡ row.cond → total ≡ need_of_block row
      → HoldsSamples block cond total [] → Held v block total
  held_none block cond total c n h = (
    [],
    subst (λ k. Leads told faults reads row v v (need_of_block row) k []) (sym n) (leads_none told faults reads row v (need_of_block row)),
    subst (λ k. HoldsSamples block row.cond k []) n (subst (λ z. HoldsSamples block z total []) c h),
  )

  module _ (m w : SourceView S) (here : SourceRow) (is : here ≡ row) (block : held.Block) (left : ℕ) where
    pub held_more : (next : held.Block) (rest : ℕ) (more : List ℕ) → Held m block left → Leads told faults reads here m w left rest more
        → ((got : List ℕ) → HoldsSamples block row.cond (need_of_block row) got → HoldsSamples next row.cond (need_of_block row) (got ++ more))
        → Held w next rest
    held_more next rest more (got, first, holds) second push =
        (got ++ more, leads_more told faults reads row v m w (need_of_block row) left got first rest more (subst (λ r. Leads told faults reads r m w left rest more) is second), push got holds)

    pub held_stops : (why : SourceRefusal) → Held m block left → Stops told faults reads here m w left why → Stops told faults reads row v w (need_of_block row) why
    held_stops why (got, first, holds) second =
        leads_stops told faults reads row v m w (need_of_block row) left got first why (subst (λ r. Stops told faults reads r m w left why) is second)

-- the length of a block
pub made_len : {S : Type 0} (told : S → Option (List ℕ)) (faults : S → ℕ) (reads : S → ℕ → Option (List ℕ) → S → Type 0) (row : SourceRow)
    (v w : SourceView S) (bytes : List ℕ)
    → (got : List ℕ) × Leads told faults reads row v w (need_of_block row) 0 got × (bytes ≡ conditioned row.cond got) → length bytes ≡ block_len row.cond
made_len told faults reads row v w bytes (got, leads, block) = ap (length {A = ℕ}) block ∙ length-conditioned row.cond got

-- Blocks one after another.
module _ {S : Type 0} (told : S → Option (List ℕ)) (faults : S → ℕ) (reads : S → ℕ → Option (List ℕ) → S → Type 0) (row : SourceRow) (v : SourceView S) where
  abbrev s : SourceState
  s = source_state told faults v

  abbrev found : Tail → List ℕ → List ℕ → Option Alarm
  found t = found_in row.cutoffs (Some t)

  abbrev need : ℕ
  need = need_of_block row

  pub one_block : (m w : SourceView S) (bytes : List ℕ) → w ≡ record m { blocks = m.blocks + 1 }
      → (got : List ℕ) × Leads told faults reads row v m (need_of_block row) 0 got × (bytes ≡ conditioned row.cond got)
      → (left : ℕ) → LeadsBlocks told faults reads row v w (suc left) left bytes
  one_block m w bytes counted (got, x, is) left = record {
    acts = x.acts ++ made ∷ [];
    got = got;
    leads = to_on told faults reads row v m w x.acts (made ∷ []) x.leads (record { state = made_is; made = ap (λ (u : SourceView S). u.samples) (sym counted) });
    keeps = λ t h. ap (λ (z : SourceState). z.tail) made_is ∙ x.keeps t h;
    taken = rw (suc-mul left need) (omega (arith, ap (λ (z : SourceState). z.taken) made_is, x.taken, x.count));
    others = record {
      mode = ap (λ (z : SourceState). z.mode) made_is ∙ x.others.mode;
      alarms = ap (λ (z : SourceState). z.alarms) made_is ∙ x.others.alarms;
      faults = ap (λ (z : SourceState). z.faults) made_is ∙ x.others.faults;
    };
    goes = λ t read before more end tl d. (
      x.acts,
      made ∷ more,
      Ok got,
      append_assoc x.acts (made ∷ []) more,
      gathered_all told faults reads row v m need got x t [] read tl,
      (
        more,
        refl,
        subst (λ (z : SourceState). Draws row (found t) left (source_after row z made) (read ++ got) (before ++ conditioned row.cond got) more end) x.leads.state
            (subst (λ b. Draws row (found t) left (source_after row now made) (read ++ got) (before ++ b) more end) is
            (subst (λ (z : SourceState). Draws row (found t) left z (read ++ got) (before ++ bytes) more end) made_is d)),
      ),
    );
  } where
    now : SourceState
    now = source_state told faults m

    after : SourceState
    after = source_state told faults w

    made_is : after ≡ record now { blocks = now.blocks + 1 }
    made_is = ap (source_state told faults) counted

    made : SourceAct
    made = Block s.taken (source_after_all row s x.acts).taken (conditioned row.cond got)

  pub one_stop : (w : SourceView S) (why : SourceRefusal) → Stops told faults reads row v w (need_of_block row) why → (left : ℕ) → StopsBlocks told faults reads row v w (suc left) why
  one_stop w why x left = record {
    acts = x.acts;
    leads = x.leads;
    left = x.left;
    ends = λ t read before tl. (x.acts, [], Err why, sym (append-nil x.acts), x.ends t [] read tl, (refl, refl));
  }

  pub blocks_none : (n : ℕ) → LeadsBlocks told faults reads row v v n n []
  blocks_none n = record {
    acts = [];
    got = [];
    leads = to_itself told faults reads row v;
    keeps = λ t h. h;
    taken = refl;
    others = record { mode = refl; alarms = refl; faults = refl };
    goes = λ t read before more end tl d.
        subst (λ z. Draws row (found t) n s z before more end) (append-nil read) (subst (λ z. Draws row (found t) n s (read ++ []) z more end) (append-nil before) d);
  }

  module _ (m w : SourceView S) (n left : ℕ) (bytes : List ℕ) (a : LeadsBlocks told faults reads row v m n left bytes) where
    abbrev mid : SourceState
    mid = source_state told faults m

    abbrev now : SourceState
    now = source_state told faults w

    tail_mid : (t : Tail) (read : List ℕ) → s.tail ≡ Some (tail_after row.cutoffs.window t read) → mid.tail ≡ Some (tail_after row.cutoffs.window t (read ++ a.got))
    tail_mid t read tl = a.keeps (tail_after row.cutoffs.window t read) tl ∙ ap Some (tail_append row.cutoffs.window t read a.got)

    pub blocks_more : (rest : ℕ) (more : List ℕ) → LeadsBlocks told faults reads row m w left rest more → LeadsBlocks told faults reads row v w n rest (bytes ++ more)
    blocks_more rest more b = record {
      acts = a.acts ++ b.acts;
      got = a.got ++ b.got;
      leads = to_on told faults reads row v m w a.acts b.acts a.leads b.leads;
      keeps = λ t h. b.keeps (tail_after row.cutoffs.window t a.got) (a.keeps t h) ∙ ap Some (tail_append row.cutoffs.window t a.got b.got);
      taken = b.taken ∙ a.taken;
      others = record {
        mode = b.others.mode ∙ a.others.mode;
        alarms = b.others.alarms ∙ a.others.alarms;
        faults = b.others.faults ∙ a.others.faults;
      };
      goes = λ t read before rest' end tl d.
          subst (λ z. Draws row (found t) n s read before z end) (sym (append_assoc a.acts b.acts rest'))
          (a.goes t read before (b.acts ++ rest') end tl
          (b.goes t (read ++ a.got) (before ++ bytes) rest' end (tail_mid t read tl)
          (subst (λ z. Draws row (found t) rest now z ((before ++ bytes) ++ more) rest' end) (sym (append_assoc read a.got b.got))
          (subst (λ z. Draws row (found t) rest now (read ++ (a.got ++ b.got)) z rest' end) (sym (append_assoc before bytes more)) d))));
    }

    pub blocks_stop : (why : SourceRefusal) → StopsBlocks told faults reads row m w left why → StopsBlocks told faults reads row v w n why
    blocks_stop why b = record {
      acts = a.acts ++ b.acts;
      leads = to_on told faults reads row v m w a.acts b.acts a.leads b.leads;
      left = left_before s mid now need need why a.others.mode a.others.faults (omega arith) b.left;
      ends = λ t read before tl. a.goes t read before b.acts (Err why) tl (b.ends t (read ++ a.got) (before ++ bytes) (tail_mid t read tl));
    }
