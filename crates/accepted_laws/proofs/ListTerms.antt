-- ListTerms: what lists, optional parts, references in a row and object identifiers say, where their parts agree
-- (X.722, section 8; docs/PROFILE.md, section 2).
use Rattle.std.proofs.Common.{◌≡◌, List, [], ◌∷◌, None, Some, refl, ap, map}
use Rattle.std.specs.Prelude.{option_map}
use Rattle.token_grammar.specs.PartLaws.{IdentifiersAgree, ListsAgree, OptionsAgree}
use Rattle.gdmo_members.specs.Agreement.{VectorsAgree, VectorsEqual}
use Rattle.gdmo_names.specs.MemberViews.{arc_number, clause_terms, clause_tokens, first_term, identifier_term}
use Rattle.gdmo_names.specs.MemberViews.{reference_terms}
use Rattle.gdmo_names.specs.TemplateTerms.{ReferenceTerm}
use Rattle.gdmo_names.specs.TemplateTerms.ReferenceTerms.{Reference}

-- values that agree say one thing
abbrev pub SayOne : {X Y : Type 0} → (X → X → Type 0) → (X → Y) → Type 0
SayOne {X} agree view = (x y : X) → agree x y → view x ≡ view y

pub lists_say : {X Y : Type 0} (agree : X → X → Type 0) (view : X → Y) → SayOne agree view → (xs ys : List X) →
    ListsAgree agree xs ys → map view xs ≡ map view ys
lists_say agree view same [] [] a = refl
lists_say agree view same [] (y ∷ ys) a = absurd a
lists_say agree view same (x ∷ xs) [] a = absurd a
lists_say agree view same (x ∷ xs) (y ∷ ys) a =
    let first = same x y a.0 in
    let others = lists_say agree view same xs ys a.1 in
    λ i. first i ∷ others i

pub options_say : {X Y : Type 0} (agree : X → X → Type 0) (view : X → Y) → SayOne agree view →
    SayOne (OptionsAgree agree) (option_map view)
options_say agree view same None None a = refl
options_say agree view same None (Some y) a = absurd a
options_say agree view same (Some x) None a = absurd a
options_say agree view same (Some x) (Some y) a = ap Some (same x y a)

-- references in a row, and those of a clause
pub references_say : {X : Type 0} (agree : X → X → Type 0) (view : X → ReferenceTerm) → SayOne agree view →
    (xs ys : List X) → ListsAgree agree xs ys → reference_terms view xs ≡ reference_terms view ys
references_say agree view same [] [] a = refl
references_say agree view same [] (y ∷ ys) a = absurd a
references_say agree view same (x ∷ xs) [] a = absurd a
references_say agree view same (x ∷ xs) (y ∷ ys) a =
    let first = same x y a.0 in
    let others = references_say agree view same xs ys a.1 in
    λ i. Reference (first i) (others i)

pub clauses_say : {X : Type 0} (agree : X → X → Type 0) (view : X → ReferenceTerm) → SayOne agree view →
    SayOne (OptionsAgree (VectorsAgree agree)) (clause_terms view)
clauses_say agree view same None None a = refl
clauses_say agree view same None (Some y) a = absurd a
clauses_say agree view same (Some x) None a = absurd a
clauses_say agree view same (Some x) (Some y) a = references_say agree view same x.items y.items a

pub equal_clauses : {X : Type 0} (view : X → ReferenceTerm) → SayOne (OptionsAgree VectorsEqual) (clause_terms view)
equal_clauses view None None a = refl
equal_clauses view None (Some y) a = absurd a
equal_clauses view (Some x) None a = absurd a
equal_clauses view (Some x) (Some y) a = ap (reference_terms view) a

pub tokens_say : SayOne (OptionsAgree VectorsEqual) clause_tokens
tokens_say None None a = refl
tokens_say None (Some y) a = absurd a
tokens_say (Some x) None a = absurd a
tokens_say (Some x) (Some y) a = a

-- object identifiers
pub identifiers_say : SayOne IdentifiersAgree identifier_term
identifiers_say x y a =
    let braces = a.0 in
    let firsts = a.1 in
    let others = a.2 in
    λ i. record { brace = braces i; first = first_term (firsts i); others = map arc_number (others i) }
