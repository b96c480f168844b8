-- A legal history in two parts.
use Rattle.std.proofs.Common.{◌≡◌, ◌++◌, ◌∷◌, List, [], refl}
use Rattle.tree_config.specs.Tree.{Tree}
use Rattle.tree_rules.specs.Fits.{Legal}
use Rattle.tree_rules.specs.History.{Entry, States, after, states_after}

pub states_parts : (p : Tree) (s : States) (xs ys : List Entry) → states_after p s (xs ++ ys) ≡ states_after p (states_after p s xs) ys
states_parts p s [] ys = refl
states_parts p s (e ∷ es) ys = states_parts p (λ k. after p k (s k) e) es ys

pub both : (p : Tree) (s : States) (xs ys : List Entry) → Legal p s (xs ++ ys) → Legal p s xs × Legal p (states_after p s xs) ys
both p s [] ys h = (tt, h)
both p s (e ∷ es) ys (fit, h) = let d = both p (λ k. after p k (s k) e) es ys h in ((fit, d.0), d.1)

pub joined : (p : Tree) (s : States) (xs ys : List Entry) → Legal p s xs → Legal p (states_after p s xs) ys → Legal p s (xs ++ ys)
joined p s [] ys l m = m
joined p s (e ∷ es) ys (fit, l) m = (fit, joined p (λ k. after p k (s k) e) es ys l m)
