-- No two values have one tree: the parts of templates.
use Rattle.std.proofs.Common.{◌≡◌, ℕ, Option, ap}
use Rattle.token_grammar.specs.Parts.{optional_tree, vector_tree}
use Rattle.std.specs.declared.alloc.Global.{Global}
use Rattle.std.specs.declared.vec.Vec.{Vec}
use Rattle.token_grammar.specs.declared.token.Token.{Token}
use Rattle.token_grammar.specs.Form.{Tree, Bare, Leaf, Pair}
use Rattle.token_grammar.specs.PartLaws.{OneValue, OneValueBy, OptionsAgree, IdentifiersAgree}
use Rattle.token_grammar.proofs.Values.{lists_agree, one_list, pair_same, first_same, second_same, leaf_same}
use Rattle.token_grammar.proofs.Values.{numbered_same, first_not_second, second_not_first, options_agree, one_option}
use Rattle.token_grammar.proofs.Values.{one_token, one_label_reference, one_object_identifier}
use Rattle.gdmo_members.specs.declared.behaviour.BehaviourReference.TheVariants.{Label, Template}
use Rattle.gdmo_members.specs.Trees.{clause_tree, behaviour_tree, behaviour_reference_tree, registration_tree}
use Rattle.gdmo_members.specs.Trees.{ending_tree, registered_ending_tree, context_word_tree, context_tree}
use Rattle.gdmo_members.specs.MemberTrees.{rules_tree, behaviours_tree, template_tree}
use Rattle.gdmo_members.specs.Agreement.{VectorsEqual, VectorsAgree, ContextsAgree}

-- vectors, and clauses
pub one_vector : {X : Type 0} (view : X → Tree) → OneValue view → OneValueBy VectorsEqual (vector_tree view)
one_vector view once x y e = one_list view once x.items y.items e

pub vectors_agree : {X : Type 0} (agree : X → X → Type 0) (view : X → Tree) → OneValueBy agree view
    → OneValueBy (VectorsAgree agree) (vector_tree view)
vectors_agree agree view once x y e = lists_agree agree view once x.items y.items e

pub clauses_agree : {X : Type 0} (agree : X → X → Type 0) (view : X → Tree) → OneValueBy agree view
    → OneValueBy agree (clause_tree view)
clauses_agree agree view once x y e = once x y (pair_same (pair_same e).1).0

-- an optional clause with a vector
pub lists_clause : {X : Type 0} (view : X → Tree) → OneValue view
    → OneValueBy (OptionsAgree VectorsEqual)
    (λ (x : Option (Vec X Global)). optional_tree (clause_tree (vector_tree view)) x)
lists_clause view once =
    options_agree VectorsEqual (clause_tree (vector_tree view))
    (clauses_agree VectorsEqual (vector_tree view) (one_vector view once))

pub one_behaviour : OneValue behaviour_tree
one_behaviour x y e =
    let parts = numbered_same e in
    let document = parts.0 in
    let label = leaf_same (pair_same parts.1).0 in
    let definition = leaf_same (pair_same (pair_same (pair_same parts.1).1).1).0 in
    λ i. record { document = document i; label = label i; definition = definition i }

pub one_behaviour_reference : OneValue behaviour_reference_tree
one_behaviour_reference (Label x) (Label y) e = ap Label (one_label_reference x y (first_same e))
one_behaviour_reference (Label x) (Template y) e = absurd (first_not_second e)
one_behaviour_reference (Template x) (Label y) e = absurd (second_not_first e)
one_behaviour_reference (Template x) (Template y) e = ap Template (one_behaviour x y (second_same e))

pub rules_agree : OneValueBy (OptionsAgree VectorsEqual) rules_tree
rules_agree = lists_clause Leaf one_token

pub behaviours_agree : OneValueBy (OptionsAgree VectorsEqual) behaviours_tree
behaviours_agree = lists_clause behaviour_reference_tree one_behaviour_reference

pub registrations_agree : OneValueBy IdentifiersAgree registration_tree
registrations_agree x y e = one_object_identifier x y (pair_same e).1

pub endings_agree : OneValueBy (OptionsAgree IdentifiersAgree) ending_tree
endings_agree x y e = options_agree IdentifiersAgree registration_tree registrations_agree x y (pair_same e).0

pub registered_endings_agree : OneValueBy IdentifiersAgree registered_ending_tree
registered_endings_agree x y e = registrations_agree x y (pair_same e).0

one_context_word : OneValue context_word_tree
one_context_word x y e =
    let parts = pair_same e in
    let point = one_option Leaf one_token x.point y.point parts.0 in
    let word = leaf_same parts.1 in
    λ i. record { point = point i; word = word i }

pub contexts_agree : OneValueBy ContextsAgree context_tree
contexts_agree x y e = let parts =
    pair_same e in (
      leaf_same parts.0,
      one_list context_word_tree one_context_word x.others.items y.others.items parts.1,
    )

-- the parts of a template
pub template_same : {document document' : ℕ} {label label' : Token} {a a' b b' : Tree}
    → template_tree document label a b ≡ template_tree document' label' a' b' → (document ≡ document')
    × (label ≡ label') × (a ≡ a') × (b ≡ b')
template_same e =
    let parts = numbered_same e in
    let labels = pair_same parts.1 in
    let others = pair_same (pair_same labels.1).1 in
    (parts.0, leaf_same labels.0, others.0, others.1)

-- clauses, as many as there are
pub three_same : {a a' b b' c c' : Tree} → Pair a (Pair b (Pair c Bare)) ≡ Pair a' (Pair b' (Pair c' Bare)) → (a ≡ a')
    × (b ≡ b') × (c ≡ c')
three_same e =
    let one = pair_same e in
    let two = pair_same one.1 in
    (one.0, two.0, (pair_same two.1).0)

pub four_same : {a a' b b' c c' d d' : Tree}
    → Pair a (Pair b (Pair c (Pair d Bare))) ≡ Pair a' (Pair b' (Pair c' (Pair d' Bare))) → (a ≡ a') × (b ≡ b')
    × (c ≡ c') × (d ≡ d')
four_same e =
    let one = pair_same e in
    let three = three_same one.1 in
    (one.0, three.0, three.1, three.2)

pub five_same : {a a' b b' c c' d d' f f' : Tree}
    → Pair a (Pair b (Pair c (Pair d (Pair f Bare)))) ≡ Pair a' (Pair b' (Pair c' (Pair d' (Pair f' Bare)))) → (a ≡ a')
    × (b ≡ b') × (c ≡ c') × (d ≡ d') × (f ≡ f')
five_same e =
    let one = pair_same e in
    let four = four_same one.1 in
    (one.0, four.0, four.1, four.2, four.3)
