-- Members in rising order, and components, fit where each of them does: X.680, sections 25 to 28; X.690, section 11.6.
use Rattle.std.proofs.Common.{◌≡◌, ◌<◌, ℕ, Bool, true, false, cond, List, [], ◌∷◌, Option, None, Some, refl, sym}
use Rattle.std.proofs.Common.{subst, arith, length}
use Rattle.std.specs.Prelude.{option_and_then, option_map}
use Rattle.std.proofs.lemmas.Option.{none-some, same_Some}
use Rattle.term_values.proofs.LengthCounts.{length_rising}
use Rattle.term_values.proofs.RisingLaws.{may_precede_back}
use Rattle.term_values.specs.Decoding.{inserted_by, left_out, rising_by}
use Rattle.term_values.specs.Fits.{Fits, AllFit, PartsFit}
use Rattle.term_values.specs.Rearranged.{IsRising, joined, may_precede, rising}
use Rattle.term_values.specs.SameValue.{same_value}
use Rattle.term_values.specs.Soundness.{DefaultFits}
use Rattle.term_values.specs.Syntaxes.{TypeSyntax, TypeParts}
use Rattle.term_values.specs.Syntaxes.TypeParts.{Part}
use Rattle.term_values.specs.Typed.{TypedValue, TypedSlots, TypedValues}
use Rattle.term_values.specs.Typed.TypedSlots.{Filled, Empty}
use Rattle.term_values.specs.Typed.TypedValues.{Nothing, Then}
use Rattle.term_values.specs.ValueContents.{member_encodings}
use Rattle.term_values.specs.Written.{der, part_encodings, unless_default}
use Rattle.typed_laws.proofs.Choosing.{map_some, then_some}
use Rattle.typed_laws.proofs.SameIs.{same_is}
use Rattle.typed_laws.proofs.WritableLaws.{front_within, back_within}
use Rattle.asn1_values.specs.Denoted.{members_said}
use Rattle.asn1_leaf_values.specs.TextValues.{TextValue, TextParts}
use Rattle.asn1_leaf_values.specs.TextValues.TextParts.{NoTexts, AndText}

-- fewer octets than a length of 32 bits can say
abbrev pub Few : List ℕ → Type 0
Few octets = length octets < 4294967296

-- ---- members in rising order

-- a member that stands before the first one that is left, and before one that is inserted, stands before all of them
in_front : (encoding : TypedValue → List ℕ) (y x : TypedValue) (ys : TypedValues)
    → may_precede (encoding y) (encoding x) ≡ true → IsRising (member_encodings encoding (Then y ys))
    → IsRising (member_encodings encoding (inserted_by encoding x ys))
    → IsRising (member_encodings encoding (Then y (inserted_by encoding x ys)))
in_front encoding y x Nothing h r later = (h, tt)
in_front encoding y x (Then z zs) h r later = either (may_precede (encoding x) (encoding z)) later
  where
    either : (c : Bool)
        → IsRising (member_encodings encoding (cond c (Then x (Then z zs)) (Then z (inserted_by encoding x zs))))
        → IsRising (member_encodings encoding
        (Then y (cond c (Then x (Then z zs)) (Then z (inserted_by encoding x zs)))))
    either true l = (h, l)
    either false l = (r.0, l)

behind_rises : (encoding : TypedValue → List ℕ) (y : TypedValue) (ys : TypedValues)
    → IsRising (member_encodings encoding (Then y ys)) → IsRising (member_encodings encoding ys)
behind_rises encoding y Nothing r = tt
behind_rises encoding y (Then z zs) r = r.1

inserted_rises : (encoding : TypedValue → List ℕ) (x : TypedValue) (ys : TypedValues)
    → IsRising (member_encodings encoding ys) → IsRising (member_encodings encoding (inserted_by encoding x ys))
inserted_rises encoding x Nothing r = tt
inserted_rises encoding x (Then y ys) r =
    either (may_precede (encoding x) (encoding y)) refl (inserted_rises encoding x ys (behind_rises encoding y ys r))
  where
    either : (c : Bool) → may_precede (encoding x) (encoding y) ≡ c
        → IsRising (member_encodings encoding (inserted_by encoding x ys))
        → IsRising (member_encodings encoding (cond c (Then x (Then y ys)) (Then y (inserted_by encoding x ys))))
    either true e later = (e, r)
    either false e later = in_front encoding y x ys (may_precede_back (encoding x) (encoding y) e) r later

pub rising_rises : (encoding : TypedValue → List ℕ) (xs : TypedValues)
    → IsRising (member_encodings encoding (rising_by encoding xs))
rising_rises encoding Nothing = tt
rising_rises encoding (Then x xs) = inserted_rises encoding x (rising_by encoding xs) (rising_rises encoding xs)

all_inserted : (P : TypedValue → Type 0) (encoding : TypedValue → List ℕ) (x : TypedValue) (ys : TypedValues) → P x
    → AllFit P ys → AllFit P (inserted_by encoding x ys)
all_inserted P encoding x Nothing p all = (p, tt)
all_inserted P encoding x (Then y ys) p all =
    either (may_precede (encoding x) (encoding y)) (all_inserted P encoding x ys p all.1)
  where
    either : (c : Bool) → AllFit P (inserted_by encoding x ys)
        → AllFit P (cond c (Then x (Then y ys)) (Then y (inserted_by encoding x ys)))
    either true later = (p, all)
    either false later = (all.0, later)

pub all_rising : (P : TypedValue → Type 0) (encoding : TypedValue → List ℕ) (xs : TypedValues) → AllFit P xs
    → AllFit P (rising_by encoding xs)
all_rising P encoding Nothing all = tt
all_rising P encoding (Then x xs) all =
    all_inserted P encoding x (rising_by encoding xs) all.0 (all_rising P encoding xs all.1)

-- ---- members

-- a member fits where it is written in few octets
abbrev pub IsFitting : TypeSyntax → TypedValue → Type 0
IsFitting syntax value = Few (der syntax value) → Fits syntax value

pub all_few : (member : TypeSyntax) (xs : TypedValues) → AllFit (IsFitting member) xs
    → Few (joined (member_encodings (der member) xs)) → AllFit (Fits member) xs
all_few member Nothing all short = tt
all_few member (Then x xs) all short = (
  all.0 (front_within (der member x) (joined (member_encodings (der member) xs)) 4294967296 short),
  all_few member xs all.1 (back_within (der member x) (joined (member_encodings (der member) xs)) 4294967296 short),
)

pub members_fit : (P : TypedValue → Type 0) (member : TextValue → Option TypedValue)
    → ((text : TextValue) (v : TypedValue) → member text ≡ Some v → P v)
    → (texts : TextParts) (xs : TypedValues) → members_said member texts ≡ Some xs → AllFit P xs
members_fit P member each NoTexts xs e = subst (AllFit P) (same_Some Nothing xs e) tt
members_fit P member each (AndText [] text others) xs e =
    let f = then_some (λ v. option_map (Then v) (members_said member others)) (member text) xs e in
    let m = map_some (Then f.0) (members_said member others) xs f.2 in
    subst (AllFit P) m.2 (each text f.0 f.1, members_fit P member each others m.0 m.1)
members_fit P member each (AndText (first ∷ more) text others) xs e = absurd (none-some _ e)

-- ---- components

-- components in rising order are as many octets as in any other
pub rising_few : (xs : List (List ℕ)) → Few (joined (rising xs)) → Few (joined xs)
rising_few xs h = let e = length_rising xs in omega arith

-- what is written of the components behind one
others_few : (default : Option TypedValue) (v : TypedValue) (encoding : List ℕ) (others : List (List ℕ))
    → Few (joined (unless_default default v encoding others)) → Few (joined others)
others_few None v encoding others short = back_within encoding (joined others) 4294967296 short
others_few (Some default) v encoding others short = either (same_value v default) short
  where
    either : (b : Bool) → Few (joined (cond b others (encoding ∷ others))) → Few (joined others)
    either true s = s
    either false s = back_within encoding (joined others) 4294967296 s

-- a component that is there equals its default, or is written
filled_fits : (syntax : TypeSyntax) (default : Option TypedValue) (v : TypedValue) (others : List (List ℕ))
    → DefaultFits syntax default → IsFitting syntax v
    → Few (joined (unless_default default v (der syntax v) others)) → Fits syntax v
filled_fits syntax None v others d f short = f (front_within (der syntax v) (joined others) 4294967296 short)
filled_fits syntax (Some default) v others d f short = either (same_value v default) refl short
  where
    either : (b : Bool) → same_value v default ≡ b → Few (joined (cond b others (der syntax v ∷ others)))
        → Fits syntax v
    either true e s = subst (Fits syntax) (sym (same_is v default e)) d
    either false e s = f (front_within (der syntax v) (joined others) 4294967296 s)

-- the components behind one fit where they are written in few octets
abbrev pub AreFitting : TypeParts → Option TypedSlots → Type 0
AreFitting parts found =
    (slots : TypedSlots) → found ≡ Some slots → Few (joined (part_encodings parts slots)) → PartsFit parts slots

pub there_fits : (name : List ℕ) (syntax : TypeSyntax) (optional : Bool) (default : Option TypedValue)
    (rest : TypeParts) (value : Option TypedValue) (found : Option TypedSlots) → DefaultFits syntax default
    → ((v : TypedValue) → value ≡ Some v → IsFitting syntax v) → AreFitting rest found
    → AreFitting (Part name syntax optional default rest)
    (option_and_then (λ v. option_map (Filled v) found) value)
there_fits name syntax optional default rest value found d here later slots e short =
    let f = then_some (λ v. option_map (Filled v) found) value slots e in
    let m = map_some (Filled f.0) found slots f.2 in
    let few = subst (λ (xs : TypedSlots). Few (joined (part_encodings (Part name syntax optional default rest) xs)))
    (sym m.2) short in
    subst (PartsFit (Part name syntax optional default rest)) m.2 (
      filled_fits syntax default f.0 (part_encodings rest m.0) d (here f.0 f.1) few,
      later m.0 m.1 (others_few default f.0 (der syntax f.0) (part_encodings rest m.0) few),
    )

pub absent_fits : (name : List ℕ) (syntax : TypeSyntax) (optional : Bool) (default : Option TypedValue)
    (rest : TypeParts) (found : Option TypedSlots) → DefaultFits syntax default → AreFitting rest found
    → AreFitting (Part name syntax optional default rest) (left_out optional default found)
absent_fits name syntax optional (Some default) rest found d later slots e short =
    let m = map_some (λ xs. Filled default xs) found slots e in
    let few = subst
    (λ (xs : TypedSlots). Few (joined (part_encodings (Part name syntax optional (Some default) rest) xs)))
    (sym m.2) short in
    subst (PartsFit (Part name syntax optional (Some default) rest)) m.2
    (d, later m.0 m.1 (others_few (Some default) default (der syntax default) (part_encodings rest m.0) few))
absent_fits name syntax true None rest found d later slots e short =
    let m = map_some (λ xs. Empty xs) found slots e in
    let few = subst (λ (xs : TypedSlots). Few (joined (part_encodings (Part name syntax true None rest) xs)))
    (sym m.2) short in
    subst (PartsFit (Part name syntax true None rest)) m.2 (later m.0 m.1 few)
absent_fits name syntax false None rest found d later slots e short = absurd (none-some _ e)
