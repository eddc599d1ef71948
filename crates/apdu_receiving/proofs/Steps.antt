-- Each test of what an APDU brings leads to the function for its answer.
use Rattle.std.proofs.Common.{◌≡◌, ℕ, ℤ, ◌<◌, ◌≤◌, List, [], ◌∷◌, Bool, true, false, Option, None, Some, refl, ap, sym}
use Rattle.std.proofs.Common.{◌∙◌, arith, drop, length, length-drop}
use Rattle.std.proofs.lemmas.Bool.Decides.{Decides-int_eq}
use Rattle.std.specs.Prelude.{pos, if◌then◌else◌}
use Rattle.std.specs.Option.{option_and_then, option_map, option_map_or}
use Rattle.std.specs.Ordering.{int_eq}
use Rattle.term_values.specs.Ber.{most_depth}
use Rattle.term_values.specs.BerReading.{alone, tree_at, tree_in}
use Rattle.term_values.specs.Tree.{TreeValue}
use Rattle.term_model.specs.declared.request.Request.{Request}
use Rattle.term_model.specs.declared.schema.Set.{Set}
use Rattle.term_model.specs.Arriving.{Arriving}
use Rattle.term_model.specs.Arriving.Arriving.{Cancels, Queued}
use Rattle.term_model.specs.RequestReading.{cancelled_in, request_in}
use Rattle.agent_model.specs.Receiving.{argued, duplicate_invocation, invoked, is_operation, mistyped_argument}
use Rattle.agent_model.specs.Receiving.{unrecognised_operation}
use Rattle.apdu_receiving.specs.Bringing.{asking, cancelling}

-- ---- octets behind the tree

not_alone : (tree : TreeValue) (rest : List ℕ) → 0 < length rest → None ≡ alone (tree, rest)
not_alone tree [] some = absurd (omega arith)
not_alone tree (octet ∷ rest) some = refl

pub leftover : (bytes : List ℕ) (tree : TreeValue) (size : ℕ) → tree_at most_depth bytes ≡ Some (tree, drop size bytes)
    → size ≤ length bytes → (size ≡ length bytes → ⊥) → None ≡ tree_in bytes
leftover bytes tree size read within short =
    let some : 0 < length (drop size bytes) = omega (arith, length-drop size bytes, short) in
    not_alone tree (drop size bytes) some ∙ sym (ap (option_and_then alone) read)

-- ---- arguments

pub asked : (schema : Set) (id op : ℤ) (argument : TreeValue) (request : Request)
    → request_in schema op argument ≡ Some request
    → Queued (record { id = id; request = request }) ≡ asking schema id op argument
asked schema id op argument request read =
    sym (ap (λ found. option_map_or (λ brought. brought)
    (option_map (λ (other : Request). Queued (record { id = id; request = other })) found) (mistyped_argument id)) read)

abbrev chosen : Set → ℤ → ℤ → TreeValue → Bool → Arriving
chosen schema id op argument is_cancel =
    option_map_or (λ brought. brought)
    (if is_cancel then option_map (λ cancelled. Cancels id cancelled) (cancelled_in argument)
    else option_map (λ (request : Request). Queued (record { id = id; request = request }))
    (request_in schema op argument)) (mistyped_argument id)

pub cancels : (schema : Set) (id op : ℤ) (argument : TreeValue) → op ≡ pos 10
    → cancelling id argument ≡ argued schema id op (Some argument)
cancels schema id op argument e =
    sym (ap (chosen schema id op argument) ((Decides-int_eq op (pos 10)).1 e))

unequal : (x y : ℤ) → (x ≡ y → ⊥) → int_eq x y ≡ false
unequal x y differ = by (int_eq x y) refl
  where
    by : (b : Bool) → int_eq x y ≡ b → b ≡ false
    by true e = absurd (differ ((Decides-int_eq x y).0 e))
    by false e = refl

pub asks : (schema : Set) (id op : ℤ) (argument : TreeValue) → (op ≡ pos 10 → ⊥)
    → asking schema id op argument ≡ argued schema id op (Some argument)
asks schema id op argument other = sym (ap (chosen schema id op argument) (unequal op (pos 10) other))

-- ---- operations

pub goes_on : (schema : Set) (in_use : ℤ → Bool) (id op : ℤ) (argument : Option TreeValue) → is_operation op ≡ true
    → in_use id ≡ false → argued schema id op argument ≡ invoked schema in_use id op argument
goes_on schema in_use id op argument known unused =
    sym (ap (λ b. if b then (if in_use id then duplicate_invocation id else argued schema id op argument)
    else unrecognised_operation id) known
    ∙ ap (λ b. if b then duplicate_invocation id else argued schema id op argument) unused)
