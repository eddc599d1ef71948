-- By the laws from any place on.
use Rattle.std.proofs.Common.{[]}
use Rattle.text_lex.proofs.Once.{tokens_once, tokens_or_fault, fault_once}
use Rattle.text_lex.proofs.lexing_laws.tokens_are_determined.Goals as goal

pub returns : goal.returns
returns c = record {
  one_list = λ text tokens others. tokens_once text [] 0 tokens others;
  one_fault = λ text place other kind another. fault_once text [] 0 place other kind another;
  never_both = λ text tokens place kind. tokens_or_fault text [] 0 place kind tokens;
}
