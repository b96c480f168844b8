use Rattle.rbg_talk.proofs.Wording.{next_words, next_none}
use Rattle.rbg_talk.proofs.words.next_word.Goals as goal

pub returns-clause-words : goal.returns-clause-words
returns-clause-words c =
    next_words c.args.text.now c.split_at.result.0.now c.split_at.result.1.now c.blank_len.result c.word_len.result c.blank_len.ensures.words c.blank_len.ensures.next
    c.word_len.ensures.next c.split_at.ensures.front c.split_at.ensures.back c.word_len.ensures.word

pub returns-clause-none : goal.returns-clause-none
returns-clause-none c =
    next_none c.args.text.now c.split_at.result.0.now c.split_at.result.1.now c.blank_len.result c.word_len.result c.blank_len.ensures.words c.blank_len.ensures.next
    c.word_len.ensures.next c.split_at.ensures.front c.split_at.ensures.back
