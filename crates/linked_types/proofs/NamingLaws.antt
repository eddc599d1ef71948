-- NamingLaws: types that are named in turn, one for each element of a list, and what was told of them in a later table.
use Rattle.std.proofs.Common.{◌≡◌, ◌∙◌, ◌+◌, ◌≤◌, ℕ, zero, suc, List, [], ◌∷◌, ◌++◌, Option, None, Some, refl, sym, ap}
use Rattle.std.proofs.Common.{arith, length}
use Rattle.std.proofs.Common.{inl, inr, length-append}
use Rattle.std.specs.Prelude.{◌⊎◌, ◌↔◌, slice_get}
use Rattle.std.proofs.Math.Path.{subst}
use Rattle.std.proofs.lemmas.Option.{slice_get_within}
use Rattle.term_values.specs.Syntaxes.{TypeSyntax}
use Rattle.asn1_names.specs.ModuleTerms.{ModuleTerm}
use Rattle.linked_parts.specs.declared.linked.Linked.{Linked}
use Rattle.linked_parts.specs.declared.linked.LinkedAction.{LinkedAction}
use Rattle.linked_parts.specs.declared.linked.LinkedAttribute.{LinkedAttribute}
use Rattle.linked_parts.specs.declared.linked.LinkedName.{LinkedName}
use Rattle.linked_parts.specs.declared.linked.LinkedNotification.{LinkedNotification}
use Rattle.filled_syntaxes.specs.declared.bad_texts.TextPlace.{TextPlace}
use Rattle.filled_syntaxes.proofs.NotingTexts.{get_cases}
use Rattle.class_faults.specs.AttributeSyntaxes.{AttributeHas}
use Rattle.class_faults.specs.StatedProperties.{TypeHas}
use Rattle.linked_types.specs.AttributeTypes.{AreAttributeTypes, name_at}
use Rattle.linked_types.specs.NotedDefaults.{BadDefaults}
use Rattle.linked_types.specs.PartTypes.{AreDerivedAttributes, AreLinkedTypes, AreTold, TellsAction, TellsMember}
use Rattle.linked_types.specs.PartTypes.{TellsNotification, TellsOptionalType}
use Rattle.linked_types.specs.TypeTables.{Grows, IsTypeTable, NamesTypes, syntax_at, syntax_of}
use Rattle.linked_types.specs.declared.derived_attributes.DerivedAttributes.{DerivedAttributes}
use Rattle.linked_types.specs.declared.member_types.LinkedTypes.{LinkedTypes}
use Rattle.linked_types.specs.declared.member_types.MemberTypes.{MemberTypes}
use Rattle.linked_types.specs.declared.type_table.TypeTable.{TypeTable}
use Rattle.linked_types.proofs.AttributeLaws.{no_attribute, told_filled, types_later}
use Rattle.linked_types.proofs.TableLaws.{names_none, names_on, there_once, type_stays}

-- ---- in a later table

pub optional_later : (ms : List ModuleTerm) (linked : Linked) {old new : TypeTable} (name : Option LinkedName)
    (place : Option ℕ) → Grows old new → TellsOptionalType ms linked old name place →
    TellsOptionalType ms linked new name place
optional_later ms linked None None grows h = h
optional_later ms linked (Some name) (Some place) grows h = type_stays grows h
optional_later ms linked None (Some place) grows h = absurd h
optional_later ms linked (Some name) None grows h = absurd h

pub member_later : {ms : List ModuleTerm} {linked : Linked} {old new : TypeTable}
    (information reply : Option LinkedName)
    (types : MemberTypes) → Grows old new → TellsMember ms linked old information reply types →
    TellsMember ms linked new information reply types
member_later {ms} {linked} information reply types grows h = record {
  of_information = optional_later ms linked information types.information grows h.of_information;
  of_reply = optional_later ms linked reply types.reply grows h.of_reply;
}

pub told_later : {X Y : Type 0} (One Other : X → Y → Type 0) {xs : List X} {ys : List Y} →
    ((x : X) (y : Y) → One x y → Other x y) → AreTold One xs ys → AreTold Other xs ys
told_later One Other to h = record { size = h.size; told = λ k x y at there. to x y (h.told k x y at there) }

pub actions_later : {ms : List ModuleTerm} {linked : Linked} {old new : TypeTable} {xs : List LinkedAction}
    {ys : List MemberTypes} → Grows old new → AreTold (TellsAction ms linked old) xs ys →
    AreTold (TellsAction ms linked new) xs ys
actions_later {ms} {linked} {old} {new} grows h = told_later (TellsAction ms linked old) (TellsAction ms linked new)
    (λ x y. member_later x.information x.reply y grows) h

pub notifications_later : {ms : List ModuleTerm} {linked : Linked} {old new : TypeTable} {xs : List LinkedNotification}
    {ys : List MemberTypes} → Grows old new → AreTold (TellsNotification ms linked old) xs ys →
    AreTold (TellsNotification ms linked new) xs ys
notifications_later {ms} {linked} {old} {new} grows h =
    told_later (TellsNotification ms linked old) (TellsNotification ms linked new)
    (λ x y. member_later x.information x.reply y grows) h

pub derived_later : {ms : List ModuleTerm} {linked : Linked} {old new : TypeTable} {derived : DerivedAttributes} →
    Grows old new → AreDerivedAttributes ms linked old derived → AreDerivedAttributes ms linked new derived
derived_later grows h = record { types_are = types_later grows h.types_are; rules_are = h.rules_are }

pub linked_later : {ms : List ModuleTerm} {linked : Linked} {old new : TypeTable} {types : LinkedTypes} →
    Grows old new → AreLinkedTypes ms linked old types → AreLinkedTypes ms linked new types
linked_later grows h = record {
  of_attributes = derived_later grows h.of_attributes;
  of_actions = actions_later grows h.of_actions;
  of_notifications = notifications_later grows h.of_notifications;
}

-- ---- one for each element

-- a fact of a table that holds of each later one
pub record Stays {X Y : Type 0} (Tells : TypeTable → X → Y → Type 0) : Type 0 where
  pub later : (old new : TypeTable) (x : X) (y : Y) → Grows old new → Tells old x y → Tells new x y

-- the elements before a place were told
pub record NamedBefore (ms : List ModuleTerm) (linked : Linked) {X Y : Type 0} (Tells : TypeTable → X → Y → Type 0)
    (xs : List X) (i : ℕ) (ys : List Y) (old new : TypeTable) (before after : Option TextPlace) : Type 0 where
  pub within : i ≤ length xs
  pub size : length ys ≡ i
  pub told : (k : ℕ) (x : X) (y : Y) → slice_get xs k ≡ Some x → slice_get ys k ≡ Some y → Tells new x y
  pub names : NamesTypes ms linked (BadDefaults ms linked) old new before after

pub named_none : {ms : List ModuleTerm} {linked : Linked} {X Y : Type 0} (Tells : TypeTable → X → Y →
    Type 0) (xs : List X)
    (ys : List Y) (table : TypeTable) (before : Option TextPlace) → ys ≡ [] → IsTypeTable ms linked table →
    NamedBefore ms linked Tells xs 0 ys table table before before
named_none {ms} {linked} Tells xs ys table before is known = record {
  within = omega arith;
  size = ap length is;
  told = λ k x y at there. absurd (gone k y (subst (λ zs. slice_get zs k ≡ Some y) is there));
  names = names_none (BadDefaults ms linked) table before known;
}
  where
    gone : {A : Type 0} (k : ℕ) (y : A) → slice_get [] k ≡ Some y → ⊥
    gone k y e = absurd (cc)

pub named_step : {ms : List ModuleTerm} {linked : Linked} {X Y : Type 0} (Tells : TypeTable → X → Y → Type 0)
    (xs : List X) (i : ℕ) (ys zs : List Y) (x : X) (y : Y) {old between new : TypeTable}
    {before mid after : Option TextPlace} → Stays Tells → slice_get xs i ≡ Some x → zs ≡ ys ++ y ∷ [] →
    Tells new x y → NamesTypes ms linked (BadDefaults ms linked) between new mid after →
    NamedBefore ms linked Tells xs i ys old between before mid →
    NamedBefore ms linked Tells xs (i + 1) zs old new before after
named_step {ms} {linked} Tells xs i ys zs x y {between = between} {new = new} stays at pushed tells names h = record {
  within = let w = slice_get_within xs i x at in omega arith;
  size = ap length pushed ∙ length-append ys (y ∷ []) ∙ ap (λ n. n + 1) h.size;
  told = λ k a b there got. by k a b there (get_cases ys y k b (subst (λ l. slice_get l k ≡ Some b) pushed got));
  names = names_on (BadDefaults ms linked) h.names names;
}
  where
    by : (k : ℕ) (a : _) (b : _) → slice_get xs k ≡ Some a → (slice_get ys k ≡ Some b) ⊎ ((k ≡ length ys) × (y ≡ b)) →
        Tells new a b
    by k a b there (inl got) = stays.later between new a b names.grows (h.told k a b there got)
    by k a b there (inr got) =
        let same = there_once (slice_get xs i) x a at (subst (λ n. slice_get xs n ≡ Some a) (got.0 ∙ h.size) there) in
        subst (λ z. Tells new z b) same (subst (λ z. Tells new x z) got.1 tells)

pub named_all : {ms : List ModuleTerm} {linked : Linked} {X Y : Type 0} (Tells : TypeTable → X → Y → Type 0)
    (xs : List X) (i : ℕ) (ys : List Y) {old new : TypeTable} {before after : Option TextPlace} → length xs ≤ i →
    NamedBefore ms linked Tells xs i ys old new before after → AreTold (Tells new) xs ys
named_all Tells xs i ys past h = record { size = let w = h.within in let s = h.size in omega arith; told = h.told }

-- the place of the type of the attribute at an end
abbrev pub TellsEnd : List ModuleTerm → Linked → List LinkedAttribute → TypeTable → Option ℕ → Option ℕ → Type 0
TellsEnd ms linked attributes table end place = TellsOptionalType ms linked table (name_at attributes end) place

pub end_stays : (ms : List ModuleTerm) (linked : Linked) (attributes : List LinkedAttribute) →
    Stays (TellsEnd ms linked attributes)
end_stays ms linked attributes =
    record { later = λ old new end place. optional_later ms linked (name_at attributes end) place }

pub action_stays : (ms : List ModuleTerm) (linked : Linked) → Stays (TellsAction ms linked)
action_stays ms linked = record { later = λ old new x y. member_later x.information x.reply y }

pub notification_stays : (ms : List ModuleTerm) (linked : Linked) → Stays (TellsNotification ms linked)
notification_stays ms linked = record { later = λ old new x y. member_later x.information x.reply y }

-- ---- lookups by place

none_there : {X Y : Type 0} (xs : List X) (ys : List Y) (k : ℕ) → length ys ≡ length xs → slice_get ys k ≡ None →
    slice_get xs k ≡ None
none_there [] ys k size gone = refl
none_there (x ∷ xs) [] k size gone = absurd (omega arith)
none_there (x ∷ xs) (y ∷ ys) zero size gone = absurd (cc)
none_there (x ∷ xs) (y ∷ ys) (suc k) size gone = none_there xs ys k (omega arith) gone

pub no_gap : {X Y : Type 0} {Tells : X → Y → Type 0} {xs : List X} {ys : List Y} (k : ℕ) (x : X) →
    AreTold Tells xs ys → slice_get xs k ≡ Some x → slice_get ys k ≡ None → ⊥
no_gap {xs = xs} {ys = ys} k x h at gone = apart (sym (none_there xs ys k h.size gone) ∙ at)
  where
    apart : None ≡ Some x → ⊥
    apart e = absurd (cc)

-- the syntax that is looked up is that of the type of a name, where one stands
pub optional_syntax : (ms : List ModuleTerm) (linked : Linked) (table : TypeTable) (name : LinkedName)
    (place : Option ℕ)
    (syntax : TypeSyntax) → TellsOptionalType ms linked table (Some name) place →
    (syntax_at table place ≡ Some syntax) ↔ TypeHas ms linked name syntax
optional_syntax ms linked table name None syntax h = absurd h
optional_syntax ms linked table name (Some place) syntax h =
    let same : syntax_at table (Some place) ≡ h.item.syntax = ap syntax_of h.stands in
    let exact = told_filled ms linked name h.item h.told.filled syntax in
    (λ e. exact.0 (sym same ∙ e), λ has. same ∙ exact.1 has)

pub no_optional : (ms : List ModuleTerm) (linked : Linked) (table : TypeTable) (place : Option ℕ) →
    TellsOptionalType ms linked table None place → place ≡ None
no_optional ms linked table None h = refl
no_optional ms linked table (Some place) h = absurd h

-- of an attribute without a place
pub no_place : (ms : List ModuleTerm) (linked : Linked) (table : TypeTable) (types : List (Option ℕ)) (k : ℕ)
    (syntax : TypeSyntax) → AreAttributeTypes ms linked table types → slice_get types k ≡ None →
    ¬ AttributeHas ms linked k syntax
no_place ms linked table types k syntax h gone =
    no_attribute ms linked k syntax (none_there linked.attributes.items types k h.size gone)
