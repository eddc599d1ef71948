-- FirstNameLaws: linked parts of one set of documents tell the same arcs of each first name (X.680, section 32;
-- docs/PROFILE.md, section 12).
use Rattle.std.specs.Prelude.{Contains, cond, find, option_map}
use Rattle.std.specs.Cmp.Lexicographic.{other_text, same_text}
use Rattle.std.proofs.Common.{◌≡◌, ◌⊎◌, ◌<◌, ℕ, Bool, true, false, List, [], ◌∷◌, Option, None, Some, refl, sym, ap}
use Rattle.std.proofs.Common.{arith, inl, inr, map, subst}
use Rattle.std.proofs.lemmas.Bool.{cases_order}
use Rattle.std.proofs.lemmas.Map.Made.{Contains-tail}
use Rattle.gdmo_names.specs.DoubleNames.{ValueHasArcs}
use Rattle.gdmo_names.specs.PartTerms.{PartTerms}
use Rattle.gdmo_linking.specs.LinkedTables.{StandsForArcs, TellFirstNames}
use Rattle.linked_parts.specs.declared.linked.Linked.{Linked}
use Rattle.linked_parts.specs.declared.linked.LinkedFirstName.{LinkedFirstName}
use Rattle.linked_documents.specs.LinkedParts.{told_name}
use Rattle.filled_syntaxes.specs.LinkedMeanings.{is_first_name, linked_arcs}
use Rattle.first_name_arcs.proofs.UnequalLaws.{one_place, value_one}
use Rattle.registered_laws.proofs.TableLaws.{first_of, later_of}

-- ---- a first name has one list of arcs

one_list : (parts : PartTerms) (name a b : List ℕ) → StandsForArcs parts name a → StandsForArcs parts name b → a ≡ b
one_list parts name a b one other = by (cases_order one.m other.m)
  where
    at_one : one.m ≡ other.m → a ≡ b
    at_one same = value_one parts other.m other.i a b
        (subst (λ m. ValueHasArcs parts m other.i a) same (subst (λ i. ValueHasArcs parts one.m i a)
        (one_place parts name one.m one.i other.m other.i one.defines.defines other.defines.defines same) one.has))
        other.has

    by : (one.m ≡ other.m) ⊎ ((one.m < other.m) ⊎ (other.m < one.m)) → a ≡ b
    by (inl same) = at_one same
    by (inr (inl less)) = absurd (other.defines.first one.m one.i less one.defines.defines)
    by (inr (inr more)) = absurd (one.defines.first other.m other.i more other.defines.defines)

-- ---- the arcs that are told

abbrev arcs_of : LinkedFirstName → List ℕ
arcs_of x = x.arcs.items

-- these arcs are told of the name, or none are
abbrev AreTold : List (List ℕ × List ℕ) → List ℕ → Option (List ℕ) → Type 0
AreTold told name None = (arcs : List ℕ) → ¬ Contains told (name, arcs)
AreTold told name (Some arcs) = Contains told (name, arcs)

later_told : (x : LinkedFirstName) (xs : List LinkedFirstName) (name : List ℕ) (found : Option (List ℕ)) →
    (x.name.text ≡ name → ⊥) → AreTold (map told_name xs) name found → AreTold (map told_name (x ∷ xs)) name found
later_told x xs name None other told = λ arcs has. told arcs
    (Contains-tail (told_name x) (map told_name xs) (name, arcs) (λ same. other (ap (λ p. p.0) same)) has)
later_told x xs name (Some arcs) other told = later_of (told_name x) (name, arcs) (map told_name xs) told

are_told : (name : List ℕ) (xs : List LinkedFirstName) →
    AreTold (map told_name xs) name (option_map arcs_of (find (is_first_name name) xs))
are_told name [] = λ arcs has. let within = has.1 in omega (arith, within)
are_told name (x ∷ xs) = by (is_first_name name x) refl (are_told name xs)
  where
    by : (test : Bool) → is_first_name name x ≡ test →
        AreTold (map told_name xs) name (option_map arcs_of (find (is_first_name name) xs)) →
        AreTold (map told_name (x ∷ xs)) name
        (option_map arcs_of (cond test (Some x) (find (is_first_name name) xs)))
    by true is rest = subst (λ n. Contains (map told_name (x ∷ xs)) (n, arcs_of x))
        (same_text x.name.text name (sym is)) (first_of (told_name x) (map told_name xs))
    by false is rest = later_told x xs name (option_map arcs_of (find (is_first_name name) xs))
        (other_text x.name.text name (sym is)) rest

same_arcs : (parts : PartTerms) (name : List ℕ) (told others : List (List ℕ × List ℕ)) → TellFirstNames parts told →
    TellFirstNames parts others → (one other : Option (List ℕ)) → AreTold told name one → AreTold others name other →
    one ≡ other
same_arcs parts name told others left right None None here there = refl
same_arcs parts name told others left right None (Some arcs) here there =
    absurd (here arcs (left.all name arcs (right.right name arcs there)))
same_arcs parts name told others left right (Some arcs) None here there =
    absurd (there arcs (right.all name arcs (left.right name arcs here)))
same_arcs parts name told others left right (Some arcs) (Some other) here there =
    ap Some (one_list parts name arcs other (left.right name arcs here) (right.right name other there))

pub arcs_determined : (parts : PartTerms) (linked other : Linked) →
    TellFirstNames parts (map told_name linked.first_names.items) →
    TellFirstNames parts (map told_name other.first_names.items) → linked_arcs linked ≡ linked_arcs other
arcs_determined parts linked other left right =
    let same : (name : List ℕ) → linked_arcs linked name ≡ linked_arcs other name = λ name. same_arcs parts name
    (map told_name linked.first_names.items) (map told_name other.first_names.items) left right
    (linked_arcs linked name) (linked_arcs other name) (are_told name linked.first_names.items)
    (are_told name other.first_names.items) in
    λ i name. same name i
