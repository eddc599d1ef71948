-- A type that holds no other.
use Rattle.std.proofs.Common.{MatchOption, ◌≡◌, sym}
use Rattle.std.proofs.Math.Path.{subst}
use Rattle.asn1_names.specs.CodeMeanings.{named_module, named_type}
use Rattle.asn1_names.specs.TermViews.{limit_terms, type_term}
use Rattle.asn1_names.specs.TypeWalks.{IsName, IsNoName}
use Rattle.asn1_names.proofs.type_walk.name_of.Goals as goal

pub returns-in-Plain : goal.returns-in-Plain
returns-in-Plain c = subst (λ t. MatchOption c.plain_name.result (IsNoName (type_term t))
    (λ name. IsName (type_term t) (named_module name.now) (named_type name.now))) (sym c.in-Plain.is)
    (c.plain_name.ensures (limit_terms c.in-Plain.constraints))
