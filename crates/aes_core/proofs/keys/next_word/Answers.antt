use Rattle.std.proofs.Common.{refl}
use Rattle.aes_core.specs.Aes.{next_word}
use Rattle.aes_core.proofs.keys.next_word.Goals as goal

pub returns : goal.returns
unfolding next_word
returns c = rw (c.xor_words.ensures, c.turned_word.ensures, c.word.ensures, c.word-2.ensures) refl
