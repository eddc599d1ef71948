-- MemberRows: components and alternatives as a list (X.680, sections 25, 27 and 29).
use Rattle.std.specs.Prelude.{List, [], ◌∷◌}
use Rattle.token_grammar.specs.declared.token.Token.{Token}
use Rattle.asn1_syntax.specs.declared.type_text.Component.{Component}
use Rattle.asn1_syntax.specs.declared.type_text.Alternative.{Alternative}
use Rattle.asn1_names.specs.ModuleTerms.{PresenceTerm, TypeTerm, MemberTerms}
use Rattle.asn1_names.specs.ModuleTerms.PresenceTerm.{Needed}
use Rattle.asn1_names.specs.ModuleTerms.MemberTerms.{NoMembers, Member}
use Rattle.asn1_names.specs.TermViews.{presence_term, type_term}

pub record MemberRow : Type 0 where
  pub name : Token
  pub of : TypeTerm
  pub presence : PresenceTerm

abbrev pub component_row : Component → MemberRow
component_row x = record { name = x.name; of = type_term x.of; presence = presence_term x.presence }

abbrev pub alternative_row : Alternative → MemberRow
alternative_row x = record { name = x.name; of = type_term x.of; presence = Needed }

-- the members of a list
abbrev pub members : List MemberRow → MemberTerms
members [] = NoMembers
members (x ∷ xs) = Member x.name x.of x.presence (members xs)
