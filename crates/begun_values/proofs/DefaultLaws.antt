-- DefaultLaws: the first names of the values behind DEFAULT in a type are those in the types that stand in it and those
-- of its components; and the syntaxes of what stands in a type that has one.
use Rattle.std.proofs.Common.{◌≡◌, ◌∙◌, ◌⊎◌, ◌<◌, ℕ, zero, suc, List, [], ◌∷◌, Option, None, Some, refl, sym, ap}
use Rattle.std.proofs.Common.{arith, inl, inr, get_or, length, option_map, slice_get, subst}
use Rattle.std.specs.Prelude.{◌↔◌, ◌+◌, Bool, Contains, ℤ, false, take, true}
use Rattle.token_grammar.specs.declared.token.Token.{Token}
use Rattle.token_grammar.specs.Form.{Tree}
use Rattle.term_values.specs.PartsView.{parts_listed}
use Rattle.term_values.specs.declared.syntax.Part.{Part as PartOfSyntax}
use Rattle.term_values.specs.Syntaxes.{TypeParts, TypeSyntax}
use Rattle.term_values.specs.Syntaxes.TypeSyntax.{SequenceOf, SetOf}
use Rattle.asn1_syntax.specs.declared.type_text.Alternative.{Alternative}
use Rattle.asn1_syntax.specs.declared.type_text.Component.{Component}
use Rattle.asn1_names.specs.Constraining.{Constrains, Narrows}
use Rattle.asn1_names.specs.Constraining.Constrains.{no_more, another}
use Rattle.asn1_names.specs.Constraining.Narrows.{values, bits, octets, characters, elements, members as set_members}
use Rattle.asn1_names.specs.Constraining.Narrows.{tagged as narrows_tagged}
use Rattle.asn1_names.specs.Containment.{IsMember, Within}
use Rattle.asn1_names.specs.Containment.IsMember.{first, behind}
use Rattle.asn1_names.specs.Containment.Within.{itself, tagged, element, component, alternative}
use Rattle.asn1_names.specs.DenotedSyntax.{Denotes, MembersDenote}
use Rattle.asn1_names.specs.DenotedSyntax.Denotes.{tagged as denotes_tagged, sequence, set, choice, sequence_of, set_of}
use Rattle.asn1_names.specs.DenotedSyntax.MembersDenote.{no_members, member}
use Rattle.asn1_names.specs.ModuleTerms.{LimitTerm, MemberTerms, ModuleTerm, PlainTerm, PresenceTerm, RangeTerm}
use Rattle.asn1_names.specs.ModuleTerms.{TagTerm, TypeTerm}
use Rattle.asn1_names.specs.ModuleTerms.PresenceTerm.{DefaultTerm, Needed, OptionalTerm}
use Rattle.asn1_names.specs.ModuleTerms.TypeTerm.{Under, Structure, Repeated, Alternatives, Plain, Reference}
use Rattle.asn1_names.specs.TermViews.{presence_term, type_term}
use Rattle.asn1_numbers.specs.NamedTargets.{alternative_members, component_members}
use Rattle.asn1_names.proofs.DenotedOnce.{one_syntax}
use Rattle.gdmo_begun_names.specs.declared.begun_names.BegunNames.{BegunNames}
use Rattle.gdmo_begun_names.specs.BegunMarks.{AnyFirst, DefinesSome, Marks}
use Rattle.gdmo_begun_names.proofs.MarkLaws.{marked_by, marked_step, none_marked}
use Rattle.begun_values.specs.DefaultNames.{AlternativeFirsts, ComponentFirsts, DefaultFirsts, DenotedFirsts, MayFirsts}
use Rattle.begun_values.specs.DefaultNames.{OwnFirsts, TextFirsts, default_text, nth_part, part_at, syntax_beneath}
use Rattle.begun_values.specs.MeantSyntaxes.{BeginsMaybe, DenotesThis}
use Rattle.begun_values.proofs.ListedLaws.{NoneDefined, any_of, any_with, one_there, some_by, told_by}
use Rattle.begun_values.proofs.ListedLaws.{told_false, told_true}
use Rattle.begun_values.proofs.MeantLaws.{only_syntax}

-- ---- what stands in a type

-- a component with DEFAULT that stands in one type stands in the other
moved : (F : TextFirsts) (one other : TypeTerm) (t : Token) →
    ((word : Token) (members : MemberTerms) (limits : List LimitTerm) → Within (Structure word members limits) one →
    Within (Structure word members limits) other) → DefaultFirsts F one t → DefaultFirsts F other t
moved F one other t to h = record {
  word = h.word;
  members = h.members;
  limits = h.limits;
  place = h.place;
  inner = h.inner;
  text = h.text;
  within = to h.word h.members h.limits h.within;
  stands = h.stands;
  begins = h.begins;
}

in_tagged : {word : Token} {members : MemberTerms} {limits : List LimitTerm} {tag : TagTerm} {mode : Option Token}
    {of : TypeTerm} → Within (Structure word members limits) (Under tag mode of) → Within (Structure word members limits) of
in_tagged (tagged h) = h

in_list : {word its : Token} {members : MemberTerms} {limits : List LimitTerm} {size : Option (List RangeTerm)}
    {of : TypeTerm} → Within (Structure word members limits) (Repeated its size of) →
    Within (Structure word members limits) of
in_list (element h) = h

pub tagged_to : (F : TextFirsts) (tag : TagTerm) (mode : Option Token) (of : TypeTerm) (t : Token) →
    DefaultFirsts F of t → DefaultFirsts F (Under tag mode of) t
tagged_to F tag mode of t h = moved F of (Under tag mode of) t (λ w ms ls x. tagged x) h

pub tagged_from : (F : TextFirsts) (tag : TagTerm) (mode : Option Token) (of : TypeTerm) (t : Token) →
    DefaultFirsts F (Under tag mode of) t → DefaultFirsts F of t
tagged_from F tag mode of t h = moved F (Under tag mode of) of t (λ w ms ls x. in_tagged x) h

pub list_to : (F : TextFirsts) (word : Token) (size : Option (List RangeTerm)) (of : TypeTerm) (t : Token) →
    DefaultFirsts F of t → DefaultFirsts F (Repeated word size of) t
list_to F word size of t h = moved F of (Repeated word size of) t (λ w ms ls x. element x) h

pub list_from : (F : TextFirsts) (word : Token) (size : Option (List RangeTerm)) (of : TypeTerm) (t : Token) →
    DefaultFirsts F (Repeated word size of) t → DefaultFirsts F of t
list_from F word size of t h = moved F (Repeated word size of) of t (λ w ms ls x. in_list x) h

not_in_plain : {word its : Token} {members : MemberTerms} {limits own : List LimitTerm} {of : PlainTerm} →
    Within (Structure word members limits) (Plain its of own) → ⊥
not_in_plain h = elim h [ ]

not_in_name : {word its : Token} {members : MemberTerms} {limits own : List LimitTerm} {module_name : Option Token} →
    Within (Structure word members limits) (Reference module_name its own) → ⊥
not_in_name h = elim h [ ]

-- a type that holds no other
abbrev pub HoldsNone : TypeTerm → Type 0
HoldsNone (Plain word of limits) = Unit {0}
HoldsNone (Reference module_name name limits) = Unit {0}
HoldsNone of = ⊥

pub none_held : (F : TextFirsts) (of : TypeTerm) (t : Token) → HoldsNone of → DefaultFirsts F of t → ⊥
none_held F (Plain word of limits) t is h = not_in_plain h.within
none_held F (Reference module_name name limits) t is h = not_in_name h.within
none_held F (Under tag mode of) t is h = is
none_held F (Structure word rows limits) t is h = is
none_held F (Repeated word size of) t is h = is
none_held F (Alternatives word rows limits) t is h = is

-- ---- components

member_get : (xs : List Component) {k : ℕ} {of : TypeTerm} {presence : PresenceTerm} →
    IsMember (component_members xs) k of presence →
    (x : Component) × (Contains xs x) × (type_term x.of ≡ of) × (presence_term x.presence ≡ presence)
member_get [] h = elim h [ ]
member_get (x ∷ xs) first = (x, (0, omega arith, refl), refl, refl)
member_get (x ∷ xs) (behind h) =
    let found = member_get xs h in (
      found.0,
      (suc found.1.0, (let w = found.1.1 in omega (arith, w)), found.1.2),
      found.2,
      found.3,
    )

member_has : (xs : List Component) (k : ℕ) (x : Component) → k < length xs → get_or xs k x ≡ x →
    IsMember (component_members xs) k (type_term x.of) (presence_term x.presence)
member_has [] k x below is = absurd (omega (arith, below))
member_has (y ∷ ys) zero x below is = subst (λ (z : Component).
    IsMember (component_members (y ∷ ys)) 0 (type_term z.of) (presence_term z.presence)) is first
member_has (y ∷ ys) (suc k) x below is = behind (member_has ys k x (omega (arith, below)) is)

own_default : (F : TextFirsts) (of : TypeTerm) (presence : PresenceTerm) (t : Token) →
    OwnFirsts F of (default_text presence) t → (text : Tree) × (presence ≡ DefaultTerm text) × F of text t
own_default F of Needed t h = absurd h
own_default F of OptionalTerm t h = absurd h
own_default F of (DefaultTerm text) t h = (text, refl, h)

pub structure_to : (F : TextFirsts) (word : Token) (xs : List Component) (limits : List LimitTerm) (t : Token) →
    AnyFirst (ComponentFirsts F) xs t → DefaultFirsts F (Structure word (component_members xs) limits) t
structure_to F word xs limits t h = by found.2
  where
    found : (x : Component) × (Contains xs x) × ComponentFirsts F x t
    found = any_of (ComponentFirsts F) xs t h

    stands : IsMember (component_members xs) found.1.0 (type_term found.0.of) (presence_term found.0.presence)
    stands = member_has xs found.1.0 found.0 found.1.1 found.1.2

    by : ComponentFirsts F found.0 t → DefaultFirsts F (Structure word (component_members xs) limits) t
    by (inl own) = let told = own_default F (type_term found.0.of) (presence_term found.0.presence) t own in record {
      word = word;
      members = component_members xs;
      limits = limits;
      place = found.1.0;
      inner = type_term found.0.of;
      text = told.0;
      within = itself;
      stands = subst (IsMember (component_members xs) found.1.0 (type_term found.0.of)) told.1 stands;
      begins = told.2;
    }
    by (inr inner) = moved F (type_term found.0.of) (Structure word (component_members xs) limits) t
        (λ w ms ls x. component stands x) inner

-- a component's own, or within one
record WithinMember (word : Token) (members mine : MemberTerms) (limits : List LimitTerm) : Type 0 where
  place : ℕ
  of : TypeTerm
  presence : PresenceTerm
  stands : IsMember mine place of presence
  within : Within (Structure word members limits) of

in_structure : {word its : Token} {members mine : MemberTerms} {limits own : List LimitTerm} →
    Within (Structure word members limits) (Structure its mine own) →
    (members ≡ mine) ⊎ WithinMember word members mine limits
in_structure itself = inl refl
in_structure (component {k = k} {of = of} {presence = presence} stands h) =
    inr (record { place = k; of = of; presence = presence; stands = stands; within = h })

own_firsts : (F : TextFirsts) (of inner : TypeTerm) (presence : PresenceTerm) (text : Tree) (t : Token) → of ≡ inner →
    presence ≡ DefaultTerm text → F inner text t → OwnFirsts F of (default_text presence) t
own_firsts F of inner presence text t same is h =
    subst (λ p. OwnFirsts F of (default_text p) t) (sym is) (subst (λ z. F z text t) (sym same) h)

pub structure_from : (F : TextFirsts) (word : Token) (xs : List Component) (limits : List LimitTerm) (t : Token) →
    DefaultFirsts F (Structure word (component_members xs) limits) t → AnyFirst (ComponentFirsts F) xs t
structure_from F word xs limits t h = by (in_structure h.within)
  where
    by : (h.members ≡ component_members xs) ⊎ WithinMember h.word h.members (component_members xs) h.limits →
        AnyFirst (ComponentFirsts F) xs t
    by (inl same) =
        let found = member_get xs (subst (λ ms. IsMember ms h.place h.inner (DefaultTerm h.text)) same h.stands) in
        any_with (ComponentFirsts F) xs found.0 t found.1
        (inl (own_firsts F (type_term found.0.of) h.inner (presence_term found.0.presence) h.text t found.2 found.3
        h.begins))
    by (inr w) =
        let found = member_get xs w.stands in
        any_with (ComponentFirsts F) xs found.0 t found.1
        (inr (subst (λ z. DefaultFirsts F z t) (sym found.2) (record {
          word = h.word;
          members = h.members;
          limits = h.limits;
          place = h.place;
          inner = h.inner;
          text = h.text;
          within = w.within;
          stands = h.stands;
          begins = h.begins;
        })))

-- ---- alternatives

alternative_get : (xs : List Alternative) {k : ℕ} {of : TypeTerm} {presence : PresenceTerm} →
    IsMember (alternative_members xs) k of presence → (x : Alternative) × (Contains xs x) × (type_term x.of ≡ of)
alternative_get [] h = elim h [ ]
alternative_get (x ∷ xs) first = (x, (0, omega arith, refl), refl)
alternative_get (x ∷ xs) (behind h) =
    let found = alternative_get xs h in
    (found.0, (suc found.1.0, (let w = found.1.1 in omega (arith, w)), found.1.2), found.2)

alternative_has : (xs : List Alternative) (k : ℕ) (x : Alternative) → k < length xs → get_or xs k x ≡ x →
    IsMember (alternative_members xs) k (type_term x.of) Needed
alternative_has [] k x below is = absurd (omega (arith, below))
alternative_has (y ∷ ys) zero x below is =
    subst (λ (z : Alternative). IsMember (alternative_members (y ∷ ys)) 0 (type_term z.of) Needed) is first
alternative_has (y ∷ ys) (suc k) x below is = behind (alternative_has ys k x (omega (arith, below)) is)

pub choice_to : (F : TextFirsts) (word : Token) (xs : List Alternative) (limits : List LimitTerm) (t : Token) →
    AnyFirst (AlternativeFirsts F) xs t → DefaultFirsts F (Alternatives word (alternative_members xs) limits) t
choice_to F word xs limits t h =
    let found = any_of (AlternativeFirsts F) xs t h in
    moved F (type_term found.0.of) (Alternatives word (alternative_members xs) limits) t
    (λ w ms ls x. alternative (alternative_has xs found.1.0 found.0 found.1.1 found.1.2) x) found.2

in_choice : {word its : Token} {members mine : MemberTerms} {limits own : List LimitTerm} →
    Within (Structure word members limits) (Alternatives its mine own) → WithinMember word members mine limits
in_choice (alternative {k = k} {of = of} {presence = presence} stands h) =
    record { place = k; of = of; presence = presence; stands = stands; within = h }

pub choice_from : (F : TextFirsts) (word : Token) (xs : List Alternative) (limits : List LimitTerm) (t : Token) →
    DefaultFirsts F (Alternatives word (alternative_members xs) limits) t → AnyFirst (AlternativeFirsts F) xs t
choice_from F word xs limits t h =
    let w = in_choice h.within in
    let found = alternative_get xs w.stands in
    any_with (AlternativeFirsts F) xs found.0 t found.1
    (subst (λ z. DefaultFirsts F z t) (sym found.2) (record {
      word = h.word;
      members = h.members;
      limits = h.limits;
      place = h.place;
      inner = h.inner;
      text = h.text;
      within = w.within;
      stands = h.stands;
      begins = h.begins;
    }))

-- ---- the syntaxes of what stands in a type

pub nth_listed : (xs : List PartOfSyntax) (k : ℕ) →
    option_map (λ (p : PartOfSyntax). p.syntax) (slice_get xs k) ≡ nth_part (parts_listed xs) k
nth_listed [] k = refl
nth_listed (x ∷ xs) zero = refl
nth_listed (x ∷ xs) (suc k) = nth_listed xs k

pub tagged_denotes : (ms : List ModuleTerm) (m : ℕ) (tag : TagTerm) (mode : Option Token) (of : TypeTerm)
    (syntax : Option TypeSyntax) → DenotesThis ms m (Under tag mode of) syntax →
    DenotesThis ms m of (syntax_beneath syntax)
tagged_denotes ms m tag mode of None d = absurd d
tagged_denotes ms m tag mode of (Some syntax) d = by d
  where
    by : {s : TypeSyntax} → Denotes ms m (Under tag mode of) s → DenotesThis ms m of (syntax_beneath (Some s))
    by (denotes_tagged is inner) = inner

-- constraints keep the syntax of a list's elements
abbrev list_member : TypeSyntax → Option TypeSyntax
list_member (SequenceOf inner sizes) = Some inner
list_member (SetOf inner sizes) = Some inner
list_member _ = None

narrowed_list : {ranges : List (ℤ × ℤ)} {is_size : Bool} {before after : TypeSyntax} →
    Narrows ranges is_size before after → list_member before ≡ list_member after
narrowed_list (values h) = refl
narrowed_list (bits h) = refl
narrowed_list (octets h) = refl
narrowed_list (characters h) = refl
narrowed_list (elements h) = refl
narrowed_list (set_members h) = refl
narrowed_list (narrows_tagged h) = refl

constrained_list : {ms : List ModuleTerm} {m : ℕ} {of : TypeTerm} {limits : List LimitTerm}
    {before after : TypeSyntax} → Constrains ms m of limits before after → list_member before ≡ list_member after
constrained_list no_more = refl
constrained_list (another ranges narrows rest) = narrowed_list narrows ∙ constrained_list rest

beneath_list : (syntax inner : TypeSyntax) → list_member syntax ≡ Some inner →
    syntax_beneath (Some syntax) ≡ Some inner
beneath_list (SequenceOf own sizes) inner e = e
beneath_list (SetOf own sizes) inner e = e
beneath_list syntax inner e = absurd (cc)

pub list_denotes : (ms : List ModuleTerm) (m : ℕ) (word : Token) (size : Option (List RangeTerm)) (of : TypeTerm)
    (syntax : Option TypeSyntax) → DenotesThis ms m (Repeated word size of) syntax →
    DenotesThis ms m of (syntax_beneath syntax)
list_denotes ms m word size of None d = absurd d
list_denotes ms m word size of (Some syntax) d = by d
  where
    by : {s : TypeSyntax} → Denotes ms m (Repeated word size of) s → DenotesThis ms m of (syntax_beneath (Some s))
    by {s = s} (sequence_of {member = its} e inner c) =
        subst (DenotesThis ms m of) (sym (beneath_list s its (sym (constrained_list c)))) inner
    by {s = s} (set_of {member = its} e inner c) =
        subst (DenotesThis ms m of) (sym (beneath_list s its (sym (constrained_list c)))) inner

members_nth : {ms : List ModuleTerm} {m k : ℕ} {members : MemberTerms} {parts : TypeParts} {of : TypeTerm}
    {presence : PresenceTerm} → MembersDenote ms m members parts → IsMember members k of presence →
    DenotesThis ms m of (nth_part parts k)
members_nth no_members h = elim h [ ]
members_nth (member d rest) first = d
members_nth (member d rest) (behind h) = members_nth rest h

pub structure_denotes : (ms : List ModuleTerm) (m : ℕ) (word : Token) (xs : List Component) (limits : List LimitTerm)
    (syntax : Option TypeSyntax) (k : ℕ) (x : Component) → k < length xs → x ≡ get_or xs k x →
    DenotesThis ms m (Structure word (component_members xs) limits) syntax →
    DenotesThis ms m (type_term x.of) (part_at syntax k)
structure_denotes ms m word xs limits None k x within at d = absurd d
structure_denotes ms m word xs limits (Some syntax) k x within at d = by d (member_has xs k x within (sym at))
  where
    by : {s : TypeSyntax} {members : MemberTerms} {own : List LimitTerm} → Denotes ms m (Structure word members own) s →
        IsMember members k (type_term x.of) (presence_term x.presence) →
        DenotesThis ms m (type_term x.of) (part_at (Some s) k)
    by (sequence e parts) stands = members_nth parts stands
    by (set e parts) stands = members_nth parts stands

pub choice_denotes : (ms : List ModuleTerm) (m : ℕ) (word : Token) (xs : List Alternative) (limits : List LimitTerm)
    (syntax : Option TypeSyntax) (k : ℕ) (x : Alternative) → k < length xs → x ≡ get_or xs k x →
    DenotesThis ms m (Alternatives word (alternative_members xs) limits) syntax →
    DenotesThis ms m (type_term x.of) (part_at syntax k)
choice_denotes ms m word xs limits None k x within at d = absurd d
choice_denotes ms m word xs limits (Some syntax) k x within at d = by d (alternative_has xs k x within (sym at))
  where
    by : {s : TypeSyntax} {members : MemberTerms} {own : List LimitTerm} →
        Denotes ms m (Alternatives word members own) s → IsMember members k (type_term x.of) Needed →
        DenotesThis ms m (type_term x.of) (part_at (Some s) k)
    by (choice parts) stands = members_nth parts stands

-- ---- marks

pub own_marked : (ms : List ModuleTerm) (m : ℕ) (of : TypeTerm) (stated : Option Tree) (text : Tree)
    (syntax : TypeSyntax) {before after : BegunNames} → Some text ≡ stated → Denotes ms m of syntax →
    Marks (BeginsMaybe (Some syntax) text) before after → Marks (OwnFirsts (DenotedFirsts ms m) of stated) before after
own_marked ms m of stated text syntax {before = before} {after = after} is d h =
    subst (λ x. Marks (OwnFirsts (DenotedFirsts ms m) of x) before after) is
    (only_syntax (Denotes ms m of) syntax text d (λ other e. one_syntax e d) h)

-- what stands in the type of what is meant
pub tagged_marked : (F : TextFirsts) (tag : TagTerm) (mode : Option Token) (of : TypeTerm)
    {before after : BegunNames} → Marks (DefaultFirsts F of) before after →
    Marks (DefaultFirsts F (Under tag mode of)) before after
tagged_marked F tag mode of h =
    marked_by (DefaultFirsts F of) (DefaultFirsts F (Under tag mode of)) (tagged_to F tag mode of)
    (tagged_from F tag mode of) h

pub list_marked : (F : TextFirsts) (word : Token) (size : Option (List RangeTerm)) (of : TypeTerm)
    {before after : BegunNames} → Marks (DefaultFirsts F of) before after →
    Marks (DefaultFirsts F (Repeated word size of)) before after
list_marked F word size of h =
    marked_by (DefaultFirsts F of) (DefaultFirsts F (Repeated word size of)) (list_to F word size of)
    (list_from F word size of) h

pub structure_marked : (F : TextFirsts) (word : Token) (xs : List Component) (limits : List LimitTerm)
    {before after : BegunNames} → Marks (AnyFirst (ComponentFirsts F) xs) before after →
    Marks (DefaultFirsts F (Structure word (component_members xs) limits)) before after
structure_marked F word xs limits h =
    marked_by (AnyFirst (ComponentFirsts F) xs) (DefaultFirsts F (Structure word (component_members xs) limits))
    (structure_to F word xs limits) (structure_from F word xs limits) h

pub choice_marked : (F : TextFirsts) (word : Token) (xs : List Alternative) (limits : List LimitTerm)
    {before after : BegunNames} → Marks (AnyFirst (AlternativeFirsts F) xs) before after →
    Marks (DefaultFirsts F (Alternatives word (alternative_members xs) limits)) before after
choice_marked F word xs limits h =
    marked_by (AnyFirst (AlternativeFirsts F) xs) (DefaultFirsts F (Alternatives word (alternative_members xs) limits))
    (choice_to F word xs limits) (choice_from F word xs limits) h

pub held_marked : (F : TextFirsts) (of : TypeTerm) (names : BegunNames) → HoldsNone of →
    Marks (DefaultFirsts F of) names names
held_marked F of names is = none_marked (DefaultFirsts F of) names (λ t. none_held F of t is)

-- ---- answers about what may stand in a type

pub may_tagged : (whole : TypeTerm) (tag : TagTerm) (mode : Option Token) (of : TypeTerm) (names : BegunNames)
    (b : Bool) → whole ≡ Under tag mode of → (b ≡ true) ↔ DefinesSome (DefaultFirsts MayFirsts of) names →
    (b ≡ true) ↔ DefinesSome (DefaultFirsts MayFirsts whole) names
may_tagged whole tag mode of names b is told =
    subst (λ x. (b ≡ true) ↔ DefinesSome (DefaultFirsts MayFirsts x) names) (sym is)
    (told_by (DefaultFirsts MayFirsts of) (DefaultFirsts MayFirsts (Under tag mode of)) names b
    (tagged_to MayFirsts tag mode of) (tagged_from MayFirsts tag mode of) told)

pub may_list : (whole : TypeTerm) (word : Token) (size : Option (List RangeTerm)) (of : TypeTerm) (names : BegunNames)
    (b : Bool) → whole ≡ Repeated word size of → (b ≡ true) ↔ DefinesSome (DefaultFirsts MayFirsts of) names →
    (b ≡ true) ↔ DefinesSome (DefaultFirsts MayFirsts whole) names
may_list whole word size of names b is told =
    subst (λ x. (b ≡ true) ↔ DefinesSome (DefaultFirsts MayFirsts x) names) (sym is)
    (told_by (DefaultFirsts MayFirsts of) (DefaultFirsts MayFirsts (Repeated word size of)) names b
    (list_to MayFirsts word size of) (list_from MayFirsts word size of) told)

pub may_component : (whole : TypeTerm) (word : Token) (xs : List Component) (limits : List LimitTerm) (k : ℕ)
    (x : Component) (names : BegunNames) (b : Bool) → whole ≡ Structure word (component_members xs) limits →
    k < length xs → x ≡ get_or xs k x → (b ≡ true) ↔ DefinesSome (ComponentFirsts MayFirsts x) names → b ≡ true →
    (true ≡ true) ↔ DefinesSome (DefaultFirsts MayFirsts whole) names
may_component whole word xs limits k x names b is within at told yes_there =
    subst (λ y. (true ≡ true) ↔ DefinesSome (DefaultFirsts MayFirsts y) names) (sym is)
    (told_true (ComponentFirsts MayFirsts x) (DefaultFirsts MayFirsts (Structure word (component_members xs) limits))
    names b (λ t h. structure_to MayFirsts word xs limits t
    (one_there (ComponentFirsts MayFirsts) xs k x within at t h)) told yes_there)

pub may_no_component : (whole : TypeTerm) (word : Token) (xs : List Component) (limits : List LimitTerm)
    (names : BegunNames) → whole ≡ Structure word (component_members xs) limits →
    NoneDefined (ComponentFirsts MayFirsts) names xs →
    (false ≡ true) ↔ DefinesSome (DefaultFirsts MayFirsts whole) names
may_no_component whole word xs limits names is none_there =
    subst (λ y. (false ≡ true) ↔ DefinesSome (DefaultFirsts MayFirsts y) names) (sym is)
    (told_false (DefaultFirsts MayFirsts (Structure word (component_members xs) limits)) names
    (λ d. none_there (some_by (DefaultFirsts MayFirsts (Structure word (component_members xs) limits))
    (AnyFirst (ComponentFirsts MayFirsts) xs) names (structure_from MayFirsts word xs limits) d)))

pub may_alternative : (whole : TypeTerm) (word : Token) (xs : List Alternative) (limits : List LimitTerm) (k : ℕ)
    (x : Alternative) (names : BegunNames) (b : Bool) → whole ≡ Alternatives word (alternative_members xs) limits →
    k < length xs → x ≡ get_or xs k x → (b ≡ true) ↔ DefinesSome (AlternativeFirsts MayFirsts x) names → b ≡ true →
    (true ≡ true) ↔ DefinesSome (DefaultFirsts MayFirsts whole) names
may_alternative whole word xs limits k x names b is within at told yes_there =
    subst (λ y. (true ≡ true) ↔ DefinesSome (DefaultFirsts MayFirsts y) names) (sym is)
    (told_true (AlternativeFirsts MayFirsts x)
    (DefaultFirsts MayFirsts (Alternatives word (alternative_members xs) limits)) names b
    (λ t h. choice_to MayFirsts word xs limits t
    (one_there (AlternativeFirsts MayFirsts) xs k x within at t h)) told yes_there)

pub may_no_alternative : (whole : TypeTerm) (word : Token) (xs : List Alternative) (limits : List LimitTerm)
    (names : BegunNames) → whole ≡ Alternatives word (alternative_members xs) limits →
    NoneDefined (AlternativeFirsts MayFirsts) names xs →
    (false ≡ true) ↔ DefinesSome (DefaultFirsts MayFirsts whole) names
may_no_alternative whole word xs limits names is none_there =
    subst (λ y. (false ≡ true) ↔ DefinesSome (DefaultFirsts MayFirsts y) names) (sym is)
    (told_false (DefaultFirsts MayFirsts (Alternatives word (alternative_members xs) limits)) names
    (λ d. none_there (some_by (DefaultFirsts MayFirsts (Alternatives word (alternative_members xs) limits))
    (AnyFirst (AlternativeFirsts MayFirsts) xs) names (choice_from MayFirsts word xs limits) d)))

pub may_none : (whole of : TypeTerm) (names : BegunNames) → whole ≡ of → HoldsNone of →
    (false ≡ true) ↔ DefinesSome (DefaultFirsts MayFirsts whole) names
may_none whole of names is holds =
    subst (λ y. (false ≡ true) ↔ DefinesSome (DefaultFirsts MayFirsts y) names) (sym is)
    (told_false (DefaultFirsts MayFirsts of) names (λ d. none_held MayFirsts of d.1.first holds d.1.is_one))

-- ---- a walk through a type and its syntax

pub tagged_walked : (ms : List ModuleTerm) (m : ℕ) (whole : TypeTerm) (tag : TagTerm) (mode : Option Token)
    (of : TypeTerm) (syntax under : Option TypeSyntax) {before after : BegunNames} → whole ≡ Under tag mode of →
    under ≡ syntax_beneath syntax →
    (DenotesThis ms m of under → Marks (DefaultFirsts (DenotedFirsts ms m) of) before after) →
    DenotesThis ms m whole syntax → Marks (DefaultFirsts (DenotedFirsts ms m) whole) before after
tagged_walked ms m whole tag mode of syntax under {before = before} {after = after} is same marked d =
    subst (λ x. Marks (DefaultFirsts (DenotedFirsts ms m) x) before after) (sym is)
    (tagged_marked (DenotedFirsts ms m) tag mode of (marked (subst (DenotesThis ms m of) (sym same)
    (tagged_denotes ms m tag mode of syntax (subst (λ x. DenotesThis ms m x syntax) is d)))))

pub list_walked : (ms : List ModuleTerm) (m : ℕ) (whole : TypeTerm) (word : Token) (size : Option (List RangeTerm))
    (of : TypeTerm) (syntax under : Option TypeSyntax) {before after : BegunNames} → whole ≡ Repeated word size of →
    under ≡ syntax_beneath syntax →
    (DenotesThis ms m of under → Marks (DefaultFirsts (DenotedFirsts ms m) of) before after) →
    DenotesThis ms m whole syntax → Marks (DefaultFirsts (DenotedFirsts ms m) whole) before after
list_walked ms m whole word size of syntax under {before = before} {after = after} is same marked d =
    subst (λ x. Marks (DefaultFirsts (DenotedFirsts ms m) x) before after) (sym is)
    (list_marked (DenotedFirsts ms m) word size of (marked (subst (DenotesThis ms m of) (sym same)
    (list_denotes ms m word size of syntax (subst (λ x. DenotesThis ms m x syntax) is d)))))

pub component_walked : (ms : List ModuleTerm) (m : ℕ) (whole : TypeTerm) (word : Token) (xs : List Component)
    (limits : List LimitTerm) (k : ℕ) (x : Component) (syntax own : Option TypeSyntax) {one other next : BegunNames} →
    whole ≡ Structure word (component_members xs) limits → k < length xs → x ≡ get_or xs k x →
    own ≡ part_at syntax k →
    (DenotesThis ms m whole syntax → Marks (AnyFirst (ComponentFirsts (DenotedFirsts ms m)) (take k xs)) one other) →
    (DenotesThis ms m (type_term x.of) own → Marks (ComponentFirsts (DenotedFirsts ms m) x) other next) →
    DenotesThis ms m whole syntax → Marks (AnyFirst (ComponentFirsts (DenotedFirsts ms m)) (take (k + 1) xs)) one next
component_walked ms m whole word xs limits k x syntax own is within at same before marked d =
    marked_step (ComponentFirsts (DenotedFirsts ms m)) xs k x within at (before d)
    (marked (subst (DenotesThis ms m (type_term x.of)) (sym same)
    (structure_denotes ms m word xs limits syntax k x within at (subst (λ y. DenotesThis ms m y syntax) is d))))

pub structure_walked : (ms : List ModuleTerm) (m : ℕ) (whole : TypeTerm) (word : Token) (xs : List Component)
    (limits : List LimitTerm) {before after : BegunNames} → whole ≡ Structure word (component_members xs) limits →
    Marks (AnyFirst (ComponentFirsts (DenotedFirsts ms m)) xs) before after →
    Marks (DefaultFirsts (DenotedFirsts ms m) whole) before after
structure_walked ms m whole word xs limits {before = before} {after = after} is h =
    subst (λ x. Marks (DefaultFirsts (DenotedFirsts ms m) x) before after) (sym is)
    (structure_marked (DenotedFirsts ms m) word xs limits h)

pub alternative_walked : (ms : List ModuleTerm) (m : ℕ) (whole : TypeTerm) (word : Token) (xs : List Alternative)
    (limits : List LimitTerm) (k : ℕ) (x : Alternative) (syntax own : Option TypeSyntax)
    {one other next : BegunNames} → whole ≡ Alternatives word (alternative_members xs) limits → k < length xs →
    x ≡ get_or xs k x → own ≡ part_at syntax k →
    (DenotesThis ms m whole syntax → Marks (AnyFirst (AlternativeFirsts (DenotedFirsts ms m)) (take k xs)) one other) →
    (DenotesThis ms m (type_term x.of) own → Marks (AlternativeFirsts (DenotedFirsts ms m) x) other next) →
    DenotesThis ms m whole syntax → Marks (AnyFirst (AlternativeFirsts (DenotedFirsts ms m)) (take (k + 1) xs)) one next
alternative_walked ms m whole word xs limits k x syntax own is within at same before marked d =
    marked_step (AlternativeFirsts (DenotedFirsts ms m)) xs k x within at (before d)
    (marked (subst (DenotesThis ms m (type_term x.of)) (sym same)
    (choice_denotes ms m word xs limits syntax k x within at (subst (λ y. DenotesThis ms m y syntax) is d))))

pub choice_walked : (ms : List ModuleTerm) (m : ℕ) (whole : TypeTerm) (word : Token) (xs : List Alternative)
    (limits : List LimitTerm) {before after : BegunNames} → whole ≡ Alternatives word (alternative_members xs) limits →
    Marks (AnyFirst (AlternativeFirsts (DenotedFirsts ms m)) xs) before after →
    Marks (DefaultFirsts (DenotedFirsts ms m) whole) before after
choice_walked ms m whole word xs limits {before = before} {after = after} is h =
    subst (λ x. Marks (DefaultFirsts (DenotedFirsts ms m) x) before after) (sym is)
    (choice_marked (DenotedFirsts ms m) word xs limits h)

pub none_walked : (ms : List ModuleTerm) (m : ℕ) (whole of : TypeTerm) (names : BegunNames) → whole ≡ of →
    HoldsNone of → Marks (DefaultFirsts (DenotedFirsts ms m) whole) names names
none_walked ms m whole of names is holds =
    subst (λ x. Marks (DefaultFirsts (DenotedFirsts ms m) x) names names) (sym is)
    (held_marked (DenotedFirsts ms m) of names holds)

-- ---- the part at a place

pub part_there : (parts : TypeParts) (xs : List PartOfSyntax) (k : ℕ) (found : Option PartOfSyntax) →
    found ≡ slice_get xs k → parts_listed xs ≡ parts →
    option_map (λ (p : PartOfSyntax). p.syntax) found ≡ nth_part parts k
part_there parts xs k found at is =
    ap (option_map (λ (p : PartOfSyntax). p.syntax)) at ∙ nth_listed xs k ∙ ap (λ ps. nth_part ps k) is
