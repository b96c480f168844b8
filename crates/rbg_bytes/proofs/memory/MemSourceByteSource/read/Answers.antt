use Rattle.std.proofs.Common.{◌≡◌, ◌≤◌, ◌+◌, ◌-◌, ◌++◌, ℕ, List, length, take, drop, sym, ap, ◌∙◌, arith, rules, take-append-drop, length-drop, length-take-le}
use Rattle.std.proofs.lemmas.List.{drop-drop}
use Rattle.std.proofs.Math.ListN.{drop_of_length-le}
use Rattle.rbg_bytes.specs.Memory.{Incoming}
use Rattle.rbg_bytes.proofs.memory.MemSourceByteSource.read.Goals as goal

-- what is left, where its next n were put at the front of a buffer
taken : (xs ys out : List ℕ) (at n count : ℕ) → ys ≡ xs → at + n ≤ length xs → count ≡ n
    → take (length (take count (drop at ys))) out ≡ take count (drop at ys) → drop at xs ≡ take n out ++ drop (at + n) xs
taken xs ys out at n count all few same front =
    let len : length (take n (drop at xs)) ≡ n = length-take-le n (drop at xs) (omega (arith, length-drop at xs)) in
    let next : take (length (take n (drop at xs))) out ≡ take n (drop at xs) = rw (← all, ← same) front in
    let got : take n out ≡ take n (drop at xs) = ap (λ (k : ℕ). take k out) (sym len) ∙ next in
    rw (got, ← drop-drop n at xs) (sym (take-append-drop n (drop at xs)))

pub returns-clause-bytes : goal.returns-clause-bytes
returns-clause-bytes c =
    let at = c.self.inside.at in
    let n = c.min-count.result in
    let xs = c.self.inside.bytes.items in
    let ys = c.deref-2.result.now in
    let all : ys ≡ xs = c.deref-2.ensures.value in
    let few : at + n ≤ length xs = search rules in
    let same : at + n - at ≡ n = omega arith in
    let left : drop at xs ≡ c.args.self.now.left = ap (λ (s : Incoming). s.left) c.self.view_is in
    (sym left ∙ taken xs ys c.put_front.new.out at n (at + n - at) all few same c.put_front.ensures.front, λ none room. drop_of_length-le xs (omega arith))
