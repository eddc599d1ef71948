-- Sound APDUs and their trees: what is written for them, and what is read of it.
use Rattle.std.proofs.Common.{◌≡◌, ℕ, ℤ, pos, negsuc, true, List, [], ◌++◌, length, None, Some, FitsSigned, refl, ap}
use Rattle.std.proofs.Common.{◌∙◌, arith}
use Rattle.std.specs.Int.{w64}
use Rattle.std.specs.Prelude.{option_and_then}
use Rattle.std.proofs.lemmas.Bool.{lt-ltb, ltb-true}
use Rattle.std.proofs.lemmas.List.{append-nil}
use Rattle.term_values.proofs.IntegerLaws.{whole_read}
use Rattle.term_values.specs.Der.{encoded, written, identifier_octets, length_octets}
use Rattle.term_values.specs.Tag.{context, universal}
use Rattle.term_values.specs.Tree.TreeValue.{Primitive, Constructed}
use Rattle.term_values.specs.Tree.TreeValues.{Nothing, Then}
use Rattle.term_values.specs.declared.tag.Tag.{Tag}
use Rattle.term_model.specs.ApduReading.{apdu_of, id_under, within_32_bits}
use Rattle.term_model.specs.ApduWriting.{apdu_octets}
use Rattle.term_model.specs.Parts.{integer_under}
use Rattle.term_model.specs.declared.apdu.Apdu.{Apdu}
use Rattle.term_model.specs.declared.apdu.Apdu.TheVariants as apdus
use Rattle.rose_frames.specs.ApduLaws.{IsId, IsSound, WrittenIsApdu, apdu_tree, whole_tree}

-- ids are numbers of 64 bits
pub id_fits : (n : ℤ) → IsId n → FitsSigned w64 n
id_fits (pos n) e = record { sfits = omega (arith, ltb-true n 2147483648 e) }
id_fits (negsuc n) e = record { sfits = omega (arith, ltb-true n 2147483648 e) }

pub integer_read : (n : ℤ) → FitsSigned w64 n → integer_under (universal 2) (whole_tree (universal 2) n) ≡ Some n
integer_read n fits = whole_read n fits

pub id_read : (n : ℤ) → IsId n → id_under (universal 2) (whole_tree (universal 2) n) ≡ Some n
id_read n e = ap (option_and_then within_32_bits) (whole_read n (id_fits n e)) ∙ within n e
  where
    within : (n : ℤ) → IsId n → within_32_bits n ≡ Some n
    within n e = rw e refl

pub linked_read : (n : ℤ) → IsId n → id_under (context 0) (whole_tree (context 0) n) ≡ Some n
linked_read n e = ap (option_and_then within_32_bits) (whole_read n (id_fits n e)) ∙ rw e refl

-- the tree of a sound APDU is read as it
pub tree_read : (apdu : Apdu) → IsSound apdu → apdu_of (apdu_tree apdu) ≡ Some apdu
tree_read (apdus.Invoke id None op None) s = rw (id_read id s.0, integer_read op s.2) refl
tree_read (apdus.Invoke id None op (Some x)) s = rw (id_read id s.0, integer_read op s.2) refl
tree_read (apdus.Invoke id (Some l) op None) s = rw (id_read id s.0, linked_read l s.1, integer_read op s.2) refl
tree_read (apdus.Invoke id (Some l) op (Some x)) s = rw (id_read id s.0, linked_read l s.1, integer_read op s.2) refl
tree_read (apdus.Result id (Some op) (Some x)) s = rw (id_read id s.0, integer_read op s.1) refl
tree_read (apdus.Result id (Some op) None) s = absurd s.1
tree_read (apdus.Result id None (Some x)) s = absurd s.1
tree_read (apdus.Result id None None) s = rw (id_read id s.0) refl
tree_read (apdus.Error id error None) s = rw (id_read id s.0, integer_read error s.1) refl
tree_read (apdus.Error id error (Some x)) s = rw (id_read id s.0, integer_read error s.1) refl
tree_read (apdus.Reject None class problem) s = rw (lt-ltb class 4 s.1, whole_read problem s.2) refl
tree_read (apdus.Reject (Some id) class problem) s =
    rw (id_read id s.0, lt-ltb class 4 s.1, whole_read problem s.2) refl

-- the octets of a constructed value by those inside it
around : (tag : Tag) (xs ys : List ℕ) → xs ≡ ys → identifier_octets true tag
    ++ (length_octets (length xs) ++ xs) ≡ encoded true tag ys
around tag xs ys e = ap (encoded true tag) e

pub tree_written : (apdu : Apdu) → written (apdu_tree apdu) ≡ apdu_octets apdu
tree_written (apdus.Invoke id None op None) =
    around (context 1) _ _ (refl)
tree_written (apdus.Invoke id None op (Some x)) =
    around (context 1) _ _ (ap (λ xs. written (whole_tree (universal 2) id) ++ xs)
    (ap (λ xs. written (whole_tree (universal 2) op) ++ xs) (append-nil (written x))))
tree_written (apdus.Invoke id (Some l) op None) =
    around (context 1) _ _ (refl)
tree_written (apdus.Invoke id (Some l) op (Some x)) =
    around (context 1) _ _ (ap (λ xs. written (whole_tree (universal 2) id) ++ xs)
    (ap (λ xs. written (whole_tree (context 0) l) ++ xs)
    (ap (λ xs. written (whole_tree (universal 2) op) ++ xs) (append-nil (written x)))))
tree_written (apdus.Result id (Some op) (Some x)) =
    around (context 2) _ _ (ap (λ xs. written (whole_tree (universal 2) id) ++ xs)
    (append-nil (written (Constructed (universal 16) (Then (whole_tree (universal 2) op) (Then x Nothing))))
    ∙ around (universal 16) _ _ (ap (λ xs. written (whole_tree (universal 2) op) ++ xs) (append-nil (written x)))))
tree_written (apdus.Result id (Some op) None) =
    around (context 2) _ _ (append-nil (written (whole_tree (universal 2) id)))
tree_written (apdus.Result id None (Some x)) =
    around (context 2) _ _ (append-nil (written (whole_tree (universal 2) id)))
tree_written (apdus.Result id None None) =
    around (context 2) _ _ (append-nil (written (whole_tree (universal 2) id)))
tree_written (apdus.Error id error None) =
    around (context 3) _ _ (refl)
tree_written (apdus.Error id error (Some x)) =
    around (context 3) _ _ (ap (λ xs. written (whole_tree (universal 2) id) ++ xs)
    (ap (λ xs. written (whole_tree (universal 2) error) ++ xs) (append-nil (written x))))
tree_written (apdus.Reject None class problem) =
    around (context 4) _ _ (ap (λ xs. written (Primitive (universal 5) []) ++ xs)
    (append-nil (written (whole_tree (context class) problem))))
tree_written (apdus.Reject (Some id) class problem) =
    around (context 4) _ _ (ap (λ xs. written (whole_tree (universal 2) id) ++ xs)
    (append-nil (written (whole_tree (context class) problem))))

pub written_is_apdu : WrittenIsApdu
written_is_apdu apdu s = (tree_written apdu, tree_read apdu s)
