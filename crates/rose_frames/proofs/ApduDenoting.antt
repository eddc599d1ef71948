-- The tree of a sound APDU denotes it.
use Rattle.std.proofs.Common.{◌≡◌, inl, inr, ℕ, zero, suc, ◌<◌, ℤ, pos, negsuc, Bool, true, false, ◌&&◌, ◌||◌, List, []}
use Rattle.std.proofs.Common.{◌∷◌, None, Some, FitsSigned, refl, arith}
use Rattle.std.specs.Int.{w64}
use Rattle.std.proofs.Math.Dec.{leb}
use Rattle.std.proofs.lemmas.Bool.{le-leb, leb-true, lt-ltb, ltb-true}
use Rattle.term_values.specs.Bounded.{allowed}
use Rattle.term_values.specs.Denotes.{IsWhole, PickDenotes}
use Rattle.term_values.specs.PduSyntaxes.{problem}
use Rattle.term_values.specs.Syntaxes.{TypeSyntax, TypeParts}
use Rattle.term_values.specs.Syntaxes.TypeSyntax.{Choice, Sequence, Tagged}
use Rattle.term_values.specs.Syntaxes.TypeParts.{NoParts}
use Rattle.term_values.specs.Tag.{context, universal}
use Rattle.term_values.specs.Tree.{TreeValue}
use Rattle.term_values.specs.Tree.TreeValue.{Primitive, Constructed}
use Rattle.term_values.specs.Tree.TreeValues.{Nothing, Then}
use Rattle.term_values.specs.Typed.{TypedValue}
use Rattle.term_values.specs.Typed.TypedValue.{Int, Null}
use Rattle.term_values.specs.declared.tag.Tag.{Tag}
use Rattle.term_model.specs.Apdu.{IsApdu}
use Rattle.term_model.specs.declared.apdu.Apdu.{Apdu}
use Rattle.term_model.specs.declared.apdu.Apdu.TheVariants as apdus
use Rattle.rose_frames.specs.ApduLaws.{IsId, IsSound, apdu_tree, whole_tree}
use Rattle.rose_frames.proofs.ApduTrees.{id_fits}

abbrev pub ranges : List (ℤ × ℤ)
ranges = (negsuc 2147483647, pos 2147483647) ∷ []

id_allowed : (n : ℤ) → IsId n → allowed ranges n ≡ true
id_allowed (pos n) e = rw (le-leb n 2147483647 (omega (arith, ltb-true n 2147483648 e))) refl
id_allowed (negsuc n) e = rw (le-leb n 2147483647 (omega (arith, ltb-true n 2147483648 e))) refl

pub allowed_id : (n : ℤ) → allowed ranges n ≡ true → IsId n
allowed_id (pos n) e = lt-ltb n 2147483648 (omega (arith, leb-true n 2147483647 (either (leb n 2147483647) e)))
  where
    either : (b : Bool) → (b || false) ≡ true → b ≡ true
    either true e = refl
    either false e = e
allowed_id (negsuc n) e = lt-ltb n 2147483648 (omega (arith, leb-true n 2147483647 (either (leb n 2147483647) e)))
  where
    either : (b : Bool) → (b && true || false) ≡ true → b ≡ true
    either true e = refl
    either false e = e

abbrev pub DenotesId : Tag → TreeValue → TypedValue → Type 0
DenotesId tag x v = (m : ℤ) × IsWhole tag x m × (allowed ranges m ≡ true) × (v ≡ Int m)

abbrev pub DenotesNumber : Tag → TreeValue → TypedValue → Type 0
DenotesNumber tag x v = (m : ℤ) × IsWhole tag x m × (allowed [] m ≡ true) × (v ≡ Int m)

id_denotes : (tag : Tag) (n : ℤ) → IsId n → DenotesId tag (whole_tree tag n) (Int n)
id_denotes tag n e = (n, (refl, id_fits n e), id_allowed n e, refl)

number_denotes : (tag : Tag) (n : ℤ) → FitsSigned w64 n → DenotesNumber tag (whole_tree tag n) (Int n)
number_denotes tag n fits = (n, (refl, fits), refl, refl)

abbrev pub parts_of : TypeSyntax → TypeParts
parts_of (Choice parts) = parts
parts_of (Sequence parts) = parts
parts_of (Tagged tag explicit of) = parts_of of
parts_of _ = NoParts

problem_denotes : (class : ℕ) (n : ℤ) → class < 4 → FitsSigned w64 n →
    PickDenotes (parts_of problem) class (whole_tree (context class) n) (Int n)
problem_denotes zero n few fits = number_denotes (context 0) n fits
problem_denotes (suc zero) n few fits = number_denotes (context 1) n fits
problem_denotes (suc (suc zero)) n few fits = number_denotes (context 2) n fits
problem_denotes (suc (suc (suc zero))) n few fits = number_denotes (context 3) n fits
problem_denotes (suc (suc (suc (suc class)))) n few fits = absurd (omega (arith, few))

pub sound_denotes : (apdu : Apdu) → IsSound apdu → IsApdu (apdu_tree apdu) apdu
sound_denotes (apdus.Invoke id None op None) s =
    record {
      denotes = (
        whole_tree (universal 2) id ∷ (whole_tree (universal 2) op ∷ []),
        _,
        refl,
        inl (id_denotes (universal 2) id s.0, inr (inl (number_denotes (universal 2) op s.2, inr (refl, refl)))),
        refl,
      );
      any = tt;
    }
sound_denotes (apdus.Invoke id None op (Some x)) s =
    record {
      denotes = (
        whole_tree (universal 2) id ∷ (whole_tree (universal 2) op ∷ (x ∷ [])),
        _,
        refl,
        inl (
          id_denotes (universal 2) id s.0,
          inr (inl (number_denotes (universal 2) op s.2, inl (refl, (refl, refl)))),
        ),
        refl,
      );
      any = refl;
    }
sound_denotes (apdus.Invoke id (Some l) op None) s =
    record {
      denotes = (
        whole_tree (universal 2) id ∷ (whole_tree (context 0) l ∷ (whole_tree (universal 2) op ∷ [])),
        _,
        refl,
        inl (
          id_denotes (universal 2) id s.0,
          inl (
            id_denotes (context 0) l s.1,
            inl (number_denotes (universal 2) op s.2, inr (refl, refl)),
          ),
        ),
        refl,
      );
      any = tt;
    }
sound_denotes (apdus.Invoke id (Some l) op (Some x)) s =
    record {
      denotes = (
        whole_tree (universal 2) id ∷ (whole_tree (context 0) l ∷ (whole_tree (universal 2) op ∷ (x ∷ []))),
        _,
        refl,
        inl (
          id_denotes (universal 2) id s.0,
          inl (
            id_denotes (context 0) l s.1,
            inl (number_denotes (universal 2) op s.2, inl (refl, (refl, refl))),
          ),
        ),
        refl,
      );
      any = refl;
    }
sound_denotes (apdus.Result id (Some op) (Some x)) s =
    record {
      denotes = (
        whole_tree (universal 2) id
            ∷ (Constructed (universal 16) (Then (whole_tree (universal 2) op) (Then x Nothing)) ∷ []),
        _,
        refl,
        inl (
          id_denotes (universal 2) id s.0,
          inl (
            (
              whole_tree (universal 2) op ∷ (x ∷ []),
              _,
              refl,
              inl (number_denotes (universal 2) op s.1, inl (refl, (refl, refl))),
              refl,
            ),
            (refl, refl),
          ),
        ),
        refl,
      );
      any = (Constructed (universal 16) (Then (whole_tree (universal 2) op) (Then x Nothing)), refl, refl);
    }
sound_denotes (apdus.Result id (Some op) None) s = absurd s.1
sound_denotes (apdus.Result id None (Some x)) s = absurd s.1
sound_denotes (apdus.Result id None None) s =
    record {
      denotes = (
        whole_tree (universal 2) id ∷ [],
        _,
        refl,
        inl (id_denotes (universal 2) id s.0, inr (refl, refl)),
        refl,
      );
      any = tt;
    }
sound_denotes (apdus.Error id error None) s =
    record {
      denotes = (
        whole_tree (universal 2) id ∷ (whole_tree (universal 2) error ∷ []),
        _,
        refl,
        inl (id_denotes (universal 2) id s.0, inl (number_denotes (universal 2) error s.1, inr (refl, refl))),
        refl,
      );
      any = tt;
    }
sound_denotes (apdus.Error id error (Some x)) s =
    record {
      denotes = (
        whole_tree (universal 2) id ∷ (whole_tree (universal 2) error ∷ (x ∷ [])),
        _,
        refl,
        inl (id_denotes (universal 2) id s.0, inl (number_denotes (universal 2) error s.1, inl (refl, (refl, refl)))),
        refl,
      );
      any = refl;
    }
sound_denotes (apdus.Reject None class n) s =
    record {
      denotes = (
        Primitive (universal 5) [] ∷ (whole_tree (context class) n ∷ []),
        _,
        refl,
        inl ((1, Null, (refl, refl), refl), inl ((class, Int n, problem_denotes class n s.1 s.2, refl), (refl, refl))),
        refl,
      );
      any = tt;
    }
sound_denotes (apdus.Reject (Some id) class n) s =
    record {
      denotes = (
        whole_tree (universal 2) id ∷ (whole_tree (context class) n ∷ []),
        _,
        refl,
        inl (
          (0, Int id, id_denotes (universal 2) id s.0, refl),
          inl ((class, Int n, problem_denotes class n s.1 s.2, refl), (refl, refl)),
        ),
        refl,
      );
      any = tt;
    }
