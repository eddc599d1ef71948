-- One member or one component more has been read.
use Rattle.std.proofs.Common.{◌≡◌, ◌<◌, ◌+◌, ℕ, zero, suc, true, false, length, drop, get_or, arith, List, [], ◌∷◌}
use Rattle.std.proofs.Common.{◌++◌, Option, None, Some, refl, ap, sym, ◌∙◌}
use Rattle.std.proofs.lemmas.List.{drop_more}
use Rattle.std.specs.Prelude.{option_map, option_and_then, if◌then◌else◌}
use Rattle.ber_values.proofs.DecodingLaws.{slot_read, left_out_is, nothing_left_out}
use Rattle.ber_values.specs.Left.{slot_left_out, values_before, slot_before, slots_before}
use Rattle.term_values.specs.Decoding.{left_out}
use Rattle.term_values.specs.PartsView.{parts_listed}
use Rattle.term_values.specs.Typed.{TypedValue, TypedValues, TypedSlots}
use Rattle.term_values.specs.Typed.TypedValues.{Nothing, Then}
use Rattle.term_values.specs.declared.syntax.Part.{Part}
use Rattle.term_values.specs.declared.value.Slot.{Slot}
use Rattle.term_values.specs.declared.value.Slot.TheVariants.{Absent, Present}
use Rattle.asn1_values_syntax.specs.declared.value.ValuePart.{ValuePart}
use Rattle.asn1_values.specs.Denoted.{Reading, denoted, members_said, components_said}
use Rattle.asn1_leaf_values.specs.Literals.{same_name}
use Rattle.asn1_values.specs.Steps.{next_comes}
use Rattle.asn1_leaf_values.specs.TextValues.{TextValue, TextParts, said_name, said_value, parts_said}
use Rattle.asn1_leaf_values.specs.TextValues.TextParts.{NoTexts, AndText}

-- ---- members

values_pushed : (xs : List TypedValue) (x : TypedValue) (rest : TypedValues)
    → values_before (xs ++ x ∷ []) rest ≡ values_before xs (Then x rest)
values_pushed [] x rest = refl
values_pushed (y ∷ ys) x rest = ap (Then y) (values_pushed ys x rest)

pub value_read : (xs : List TypedValue) (x : TypedValue) (rest : Option TypedValues)
    → option_map (values_before xs) (option_map (Then x) rest) ≡ option_map (values_before (xs ++ x ∷ [])) rest
value_read xs x None = refl
value_read xs x (Some rest) = rw (values_pushed xs x rest) refl

next_member : (member : TextValue → Option TypedValue) (name : List ℕ) (text : TextValue) (others : TextParts)
    (v : TypedValue) → name ≡ [] → member text ≡ Some v
    → members_said member (AndText name text others) ≡ option_map (Then v) (members_said member others)
next_member member [] text others v e is = rw is refl
next_member member (x ∷ xs) text others v e is = absurd (cc)

pub member_read : (member : TextValue → Option TypedValue) (before : List TypedValue) (part : ValuePart)
    (left rest : List ValuePart) (v : TypedValue) → left ≡ part ∷ rest → said_name part ≡ []
    → member (said_value part) ≡ Some v
    → option_map (values_before before) (members_said member (parts_said left))
    ≡ option_map (values_before (before ++ v ∷ [])) (members_said member (parts_said rest))
member_read member before part left rest v e named is =
    rw e (ap (option_map (values_before before))
    (next_member member (said_name part) (said_value part) (parts_said rest) v named is)
    ∙ value_read before v (members_said member (parts_said rest)))

no_member : (member : TextValue → Option TypedValue) (name : List ℕ) (text : TextValue) (others : TextParts)
    → member text ≡ None → members_said member (AndText name text others) ≡ None
no_member member [] text others is = rw is refl
no_member member (x ∷ xs) text others is = refl

pub member_missing : (member : TextValue → Option TypedValue) (before : List TypedValue) (part : ValuePart)
    (left rest : List ValuePart) → left ≡ part ∷ rest → member (said_value part) ≡ None
    → option_map (values_before before) (members_said member (parts_said left)) ≡ None
member_missing member before part left rest e is =
    rw e (ap (option_map (values_before before))
    (no_member member (said_name part) (said_value part) (parts_said rest) is))

named_member : (member : TextValue → Option TypedValue) (name : List ℕ) (text : TextValue) (others : TextParts)
    → 0 < length name → members_said member (AndText name text others) ≡ None
named_member member [] text others h = absurd (omega arith)
named_member member (x ∷ xs) text others h = refl

pub member_named : (member : TextValue → Option TypedValue) (before : List TypedValue) (part : ValuePart)
    (left rest : List ValuePart) → left ≡ part ∷ rest → 0 < length (said_name part)
    → option_map (values_before before) (members_said member (parts_said left)) ≡ None
member_named member before part left rest e named =
    rw e (ap (option_map (values_before before))
    (named_member member (said_name part) (said_value part) (parts_said rest) named))

-- ---- components in the order of the type

pub part_there : (filter : Reading) (before : List Slot) (part : Part) (left rest : List Part)
    (texts : List ValuePart) (x : ValuePart) (xs : List ValuePart) (v : TypedValue)
    → left ≡ part ∷ rest → texts ≡ x ∷ xs
    → next_comes part.name (parts_said texts) ≡ true → denoted filter part.syntax (said_value x) ≡ Some v
    → option_map (slots_before before) (components_said filter (parts_listed left) (parts_said texts))
    ≡ option_map (slots_before (before ++ Present v ∷ []))
    (components_said filter (parts_listed rest) (parts_said xs))
part_there filter before part left rest texts x xs v e f comes is =
    let there : same_name part.name (said_name x) ≡ true =
    sym (ap (λ ys. next_comes part.name (parts_said ys)) f) ∙ comes in
    rw (e, f) (rw (there, is) (slot_read before (Present v)
    (components_said filter (parts_listed rest) (parts_said xs))))

pub part_bad : (filter : Reading) (before : List Slot) (part : Part) (left rest : List Part)
    (texts : List ValuePart) (x : ValuePart) (xs : List ValuePart) → left ≡ part ∷ rest → texts ≡ x ∷ xs
    → next_comes part.name (parts_said texts) ≡ true → denoted filter part.syntax (said_value x) ≡ None
    → option_map (slots_before before) (components_said filter (parts_listed left) (parts_said texts)) ≡ None
part_bad filter before part left rest texts x xs e f comes is =
    let there : same_name part.name (said_name x) ≡ true =
    sym (ap (λ ys. next_comes part.name (parts_said ys)) f) ∙ comes in
    rw (e, f) (rw (there, is) refl)

skipped : (filter : Reading) (part : Part) (rest : List Part) (texts : TextParts)
    → next_comes part.name texts ≡ false
    → components_said filter (parts_listed (part ∷ rest)) texts
    ≡ left_out part.optional part.default (components_said filter (parts_listed rest) texts)
skipped filter part rest NoTexts comes = refl
skipped filter part rest (AndText own text others) comes = rw comes refl

pub part_absent : (filter : Reading) (before : List Slot) (part : Part) (left rest : List Part)
    (texts : TextParts) (slot : Slot) → left ≡ part ∷ rest → next_comes part.name texts ≡ false
    → slot_left_out part.optional part.default ≡ Some slot
    → option_map (slots_before before) (components_said filter (parts_listed left) texts)
    ≡ option_map (slots_before (before ++ slot ∷ [])) (components_said filter (parts_listed rest) texts)
part_absent filter before part left rest texts slot e comes is =
    rw e (ap (option_map (slots_before before)) (skipped filter part rest texts comes
    ∙ left_out_is part.optional part.default slot (components_said filter (parts_listed rest) texts) is)
    ∙ slot_read before slot (components_said filter (parts_listed rest) texts))

pub part_missing : (filter : Reading) (before : List Slot) (part : Part) (left rest : List Part) (texts : TextParts)
    → left ≡ part ∷ rest → next_comes part.name texts ≡ false
    → slot_left_out part.optional part.default ≡ None
    → option_map (slots_before before) (components_said filter (parts_listed left) texts) ≡ None
part_missing filter before part left rest texts e comes is =
    rw e (ap (option_map (slots_before before)) (skipped filter part rest texts comes
    ∙ nothing_left_out part.optional part.default (components_said filter (parts_listed rest) texts) is))

-- texts behind the last component
pub too_many : (filter : Reading) (parts : List Part) (texts : List ValuePart) (at : ℕ)
    → parts ≡ [] → at < length texts
    → components_said filter (parts_listed parts) (parts_said (drop at texts)) ≡ None
too_many filter parts [] at e h = absurd (omega arith)
too_many filter parts (x ∷ xs) zero e h = rw e refl
too_many filter parts (x ∷ xs) (suc at) e h = too_many filter parts xs at e (omega arith)

-- ---- lists

pub drop_next : {T : Type 0} (xs : List T) (k : ℕ) (x : T) → k < length xs → x ≡ get_or xs k x
    → drop k xs ≡ x ∷ drop (k + 1) xs
drop_next xs k x h e = drop_more xs k x h ∙ ap (λ y. y ∷ drop (k + 1) xs) (sym e)

pub empty_is : (xs : List ℕ) → length xs ≡ 0 → xs ≡ []
empty_is [] h = refl
empty_is (x ∷ xs) h = absurd (omega arith)
