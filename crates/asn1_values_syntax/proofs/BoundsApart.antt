-- Which parts of constraints and tags are apart from the tokens with which the parts before them go on.
use Rattle.std.proofs.Common.{false, List, [], ◌∷◌, refl, codes}
use Rattle.token_grammar.specs.declared.token.Token.{Token}
use Rattle.token_grammar.specs.Form.{Keep, Then}
use Rattle.token_grammar.specs.Parts.{sign}
use Rattle.token_grammar.proofs.Heads.{starts}
use Rattle.token_grammar.proofs.Known.{at_one_of}
use Rattle.token_grammar.proofs.Sequences.{Apart, apart_by}
use Rattle.token_grammar.proofs.Parts.{apart_either}
use Rattle.asn1_values_syntax.specs.Asn1.{asn1}
use Rattle.asn1_values_syntax.specs.TypeEnds.{is_ranges_end}
use Rattle.asn1_values_syntax.specs.TypeForms.{is_class, is_number_or_name}
use Rattle.asn1_values_syntax.proofs.FirstTokens.{firsts, firsts_lead, sign_apart}

-- a parenthesis ends ranges
pub ranges_apart : {tokens : List Token} → Apart tokens asn1 is_ranges_end (sign (codes ")"))
ranges_apart = apart_either (sign_apart (codes "|") (sign (codes ")")) refl (λ at. refl))
    (sign_apart (codes "..") (sign (codes ")")) refl (λ at. refl))

-- a class is no number and no name
pub class_apart : {tokens : List Token} → Apart tokens asn1 is_class
    (Then (Keep is_number_or_name) (sign (codes "]")))
class_apart = apart_by firsts firsts_lead (Then (Keep is_number_or_name) (sign (codes "]"))) refl
    (at_one_of (codes "UNIVERSAL" ∷ codes "APPLICATION" ∷ codes "PRIVATE" ∷ []) false
    (starts firsts (Then (Keep is_number_or_name) (sign (codes "]"))))
    ((λ at. refl), ((λ at. refl), ((λ at. refl), tt))))
