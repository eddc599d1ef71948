-- One word more was read, or it isn't there.
use Rattle.token_grammar.specs.Form.{Bare}
use Rattle.token_grammar.specs.TokenTests.{is_word_of}
use Rattle.token_grammar.proofs.Turns.{words_lead, words_fault, words_end}
use Rattle.token_grammar.proofs.Sequences.{fails_by}
use Rattle.token_grammar.proofs.Exits.{exit_skips}
use Rattle.token_grammar.proofs.token_reading.skip_words.Goals as goal

pub loop-word-preserved : goal.loop-word-preserved
loop-word-preserved c = λ grammar. words_lead (λ word. is_word_of word.now) c.args.words.now c.loop-word.word-index _
    c.loop-word-test.true (c.loop-word.invariant grammar) (c.in_ok-next.ensures grammar)

pub returns-in_err-next : goal.returns-in_err-next
returns-in_err-next c = λ grammar. exit_skips Bare c.from_residual.result c.from_residual.ensures.1
    (fails_by (λ k. words_fault (λ word. is_word_of word.now) c.args.words.now c.loop-word.word-index _
    c.loop-word-test.true (c.loop-word.invariant grammar)) (c.in_err-next.ensures grammar))

pub returns : goal.returns
returns c = λ grammar. words_end (λ word. is_word_of word.now) c.args.words.now c.loop-word.word-index
    c.loop-word-test.false (c.loop-word.invariant grammar)
