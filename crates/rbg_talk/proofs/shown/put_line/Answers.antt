use Rattle.std.proofs.Common.{◌≡◌, ◌∙◌, ◌++◌, ◌∷◌, [], List, ℕ, ap}
use Rattle.hex.specs.Hex.{encode_lower}
use Rattle.rbg_talk.specs.Shown.{subject, code_name, details}
use Rattle.rbg_talk.proofs.shown.put_line.Goals as goal

assembled : (a b c line hex : List ℕ) → a ≡ b ++ 10 ∷ [] → b ≡ c ++ hex → c ≡ line → a ≡ line ++ hex ++ 10 ∷ []
assembled a b c line hex last middle first = last ∙ ap (λ (x : List ℕ). x ++ 10 ∷ []) (middle ∙ ap (λ (x : List ℕ). x ++ hex) first)

pub returns-clause-text : goal.returns-clause-text
returns-clause-text c =
    assembled _ _ _ _ _ c.put_at.ensures.front c.put_hex_at.ensures c.put_front.ensures.front
    ∙ (ap (λ (x : List ℕ). x ++ encode_lower c.given-shown.result.now ++ 10 ∷ []) (c.as_bytes-bytes.ensures ∙ c.front-line.ensures.value)
    ∙ ap (λ (x : List ℕ). subject c.args.head.now ++ code_name c.args.head.now.code ++ details c.args.head.now c.args.payload.now ++ encode_lower x ++ 10 ∷ []) c.given-shown.ensures)
