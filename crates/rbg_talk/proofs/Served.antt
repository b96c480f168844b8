-- Calls are requests that frames may have.
use Rattle.std.proofs.Common.{[], ◌∷◌, true≢false, ◌≡◌, ◌<◌, ◌≤◌, ◌^◌, ℕ, Bool, true, false, refl, sym, subst, arith, inl, lit≤}
use mir.Val.{bool_byte}
use Rattle.std.specs.Prelude.{Option, Some, None, unwrap_or, IsSome, IfSome}
use Rattle.frame_codec.specs.declared.frames.Request.{Request}
use Rattle.frame_codec.specs.Rows.{IsInOne}
use Rattle.frame_codec.specs.Frames.{flags_of, counts_of, strengths_of, lens_of}
use Rattle.frame_codec.proofs.Requests.{request-head}
use Rattle.rbg_talk.specs.declared.call.Options as read
use Rattle.rbg_talk.specs.declared.grammar.Operation.{Operation}
use Rattle.rbg_talk.specs.declared.grammar.Operation.TheVariants.{Instantiate, Generate, Reseed, Uninstantiate, Start, Status}
use Rattle.rbg_talk.specs.declared.grammar.Word.TheVariants.{Pr, StrengthWord, StringWord}
use Rattle.rbg_talk.specs.Calls.{takes, counted}
use Rattle.rbg_talk.specs.Words.{op_of}
use Rattle.rbg_talk.specs.Parsed.{AreAllowed, IsCountOf, IsServed}

pub op-least : (op : Operation) → 1 ≤ op_of op
op-least Instantiate = lit≤ tt
op-least Generate = lit≤ tt
op-least Reseed = lit≤ tt
op-least Uninstantiate = lit≤ tt
op-least Start = lit≤ tt
op-least Status = lit≤ tt

pub op-most : (op : Operation) → op_of op ≤ 6
op-most Instantiate = lit≤ tt
op-most Generate = lit≤ tt
op-most Reseed = lit≤ tt
op-most Uninstantiate = lit≤ tt
op-most Start = lit≤ tt
op-most Status = lit≤ tt

only-zero : IsInOne (record { low = 0; high = 0 } ∷ []) 0
only-zero = inl (lit≤ tt, lit≤ tt)

some-flag : (b : Bool) → IsInOne (record { low = 0; high = 1 } ∷ []) (bool_byte b)
some-flag true = inl (lit≤ tt, lit≤ tt)
some-flag false = inl (lit≤ tt, lit≤ tt)

no-flag : (b : Bool) → (b ≡ true → false ≡ true) → IsInOne (record { low = 0; high = 0 } ∷ []) (bool_byte b)
no-flag true never = absurd (true≢false (sym (never refl)))
no-flag false never = only-zero

flags-served : (op : Operation) (pr : Bool) → (pr ≡ true → takes op Pr ≡ true) → IsInOne (flags_of (op_of op)) (bool_byte pr)
flags-served Instantiate pr h = no-flag pr h
flags-served Generate pr h = some-flag pr
flags-served Reseed pr h = some-flag pr
flags-served Uninstantiate pr h = no-flag pr h
flags-served Start pr h = no-flag pr h
flags-served Status pr h = no-flag pr h

none-counted : (n : ℕ) → n ≡ 0 → IsInOne (record { low = 0; high = 0 } ∷ []) n
none-counted n e = inl (omega arith, omega (arith, e))

counts-served : (op : Operation) (count : ℕ) → count < 2 ^ 32 → IsCountOf op count → IsInOne (counts_of (op_of op)) count
counts-served Instantiate count fits h = none-counted count (h refl)
counts-served Generate count fits h = inl (omega arith, omega (arith, fits))
counts-served Reseed count fits h = none-counted count (h refl)
counts-served Uninstantiate count fits h = none-counted count (h refl)
counts-served Start count fits h = none-counted count (h refl)
counts-served Status count fits h = none-counted count (h refl)

no-number : (s : Option ℕ) → (IsSome s → false ≡ true) → IsInOne (record { low = 0; high = 0 } ∷ []) (unwrap_or s 0)
no-number None never = only-zero
no-number (Some n) never = absurd (true≢false (sym (never refl)))

strengths-served : (op : Operation) (s : Option ℕ) → unwrap_or s 0 < 65536 → (IsSome s → takes op StrengthWord ≡ true) → IsInOne (strengths_of (op_of op)) (unwrap_or s 0)
strengths-served Instantiate s fits h = inl (omega arith, omega (arith, fits))
strengths-served Generate s fits h = inl (omega arith, omega (arith, fits))
strengths-served Reseed s fits h = no-number s h
strengths-served Uninstantiate s fits h = no-number s h
strengths-served Start s fits h = no-number s h
strengths-served Status s fits h = no-number s h

short : (s : Option ℕ) → IfSome s (λ n. n ≤ 4096) → unwrap_or s 0 ≤ 4096
short None h = lit≤ tt
short (Some n) h = h

lens-served : (op : Operation) (s : Option ℕ) → IfSome s (λ n. n ≤ 4096) → (IsSome s → takes op StringWord ≡ true) → IsInOne (lens_of (op_of op)) (unwrap_or s 0)
lens-served Instantiate s most h = inl (omega arith, short s most)
lens-served Generate s most h = inl (omega arith, short s most)
lens-served Reseed s most h = inl (omega arith, short s most)
lens-served Uninstantiate s most h = no-number s h
lens-served Start s most h = no-number s h
lens-served Status s most h = no-number s h

-- a call's request
pub call_served : (op : Operation) (o : read.Options) (r : Request) → r.op ≡ op_of op → r.flags ≡ bool_byte o.pr → r.node < 2 ^ 8 → r.count < 2 ^ 32 → IsCountOf op r.count
    → r.strength ≡ unwrap_or o.strength 0 → r.strength < 65536 → r.len ≡ unwrap_or o.string 0 → AreAllowed op o → IsServed r
call_served op o r is flags node count counts strength fits len allowed =
    let less : unwrap_or o.strength 0 < 65536 = omega (arith, strength, fits) in
    record {
      head = λ id below. request-head (record r { id = id })
          (subst (λ (k : ℕ). 1 ≤ k) (sym is) (op-least op))
          (subst (λ (k : ℕ). k ≤ 6) (sym is) (op-most op))
          (subst (λ (k : ℕ). IsInOne (flags_of k) r.flags) (sym is) (subst (λ (f : ℕ). IsInOne (flags_of (op_of op)) f) (sym flags) (flags-served op o.pr allowed.pr)))
          node
          below
          (subst (λ (k : ℕ). IsInOne (counts_of k) r.count) (sym is) (counts-served op r.count count counts))
          (subst (λ (k : ℕ). IsInOne (strengths_of k) r.strength) (sym is) (subst (λ (f : ℕ). IsInOne (strengths_of (op_of op)) f) (sym strength) (strengths-served op o.strength less allowed.strength)))
          (subst (λ (k : ℕ). IsInOne (lens_of k) r.len) (sym is) (subst (λ (f : ℕ). IsInOne (lens_of (op_of op)) f) (sym len) (lens-served op o.string allowed.len allowed.string)));
      len = omega (arith, len, short o.string allowed.len);
    }
