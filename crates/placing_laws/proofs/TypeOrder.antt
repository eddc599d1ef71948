-- TypeOrder: in the text of a type whose tokens stand in order the first word of the type stands no later than those of
-- the types in it.
use Rattle.std.proofs.Common.{ℕ, ◌<◌, ◌≤◌, Bool, true, false, List, Option, None, Some, arith, option_map}
use Rattle.std.specs.Prelude.{if◌then◌else◌}
use Rattle.token_grammar.specs.declared.token.Token.{Token}
use Rattle.token_grammar.specs.TokenTests.{is_number}
use Rattle.token_grammar.specs.Form.{Tree, Leaf, Pair, Empty, After, option_tree}
use Rattle.asn1_values_syntax.specs.declared.tag.Tag.{Tag}
use Rattle.asn1_syntax.specs.declared.plain_type.PlainType.{PlainType}
use Rattle.asn1_syntax.specs.declared.plain_type.PlainType.TheVariants as plain
use Rattle.asn1_syntax.specs.declared.type_text.StructureText.{StructureText, Row_of-Component, end_of-Component}
use Rattle.asn1_syntax.specs.declared.type_text.StructureText.{more_of-Component, Held-StructureText-Components-0}
use Rattle.asn1_syntax.specs.declared.type_text.StructureText.{None' as NoRow, Some' as ARow}
use Rattle.asn1_syntax.specs.declared.type_text.StructureText.TheVariants.{Components', ListOf'}
use Rattle.asn1_syntax.specs.declared.type_text.TypeText.{TypeText, Row_of-Alternative, end_of-Alternative}
use Rattle.asn1_syntax.specs.declared.type_text.TypeText.{more_of-Alternative}
use Rattle.asn1_syntax.specs.declared.type_text.TypeText.TheVariants.{Tagged', Structured, Choice', Plain as APlain}
use Rattle.asn1_syntax.specs.PlainTrees.{plain_type_tree}
use Rattle.asn1_syntax.specs.TypeTrees.{alternatives_row, component_parts, components_held, components_row}
use Rattle.asn1_syntax.specs.TypeTrees.{structure_tree, type_tree}
use Rattle.asn1_values_syntax.specs.NamedNumberTrees.{tag_tree}
use Rattle.asn1_values_syntax.specs.ConstraintTrees.{list_size_tree}
use Rattle.asn1_names.specs.Containment.{IsMember, Within}
use Rattle.asn1_names.specs.Containment.IsMember.{first as first_member, behind as further_member}
use Rattle.asn1_names.specs.Containment.Within.{itself, tagged, element, component, alternative}
use Rattle.asn1_names.specs.ModuleTerms.{LimitTerm, MemberTerms, PlainTerm, PresenceTerm, RangeTerm}
use Rattle.asn1_names.specs.ModuleTerms.{TagTerm, TypeTerm}
use Rattle.asn1_names.specs.ModuleTerms.MemberTerms.{NoMembers, Member}
use Rattle.asn1_names.specs.ModuleTerms.NumberTerm.{Digits, Called}
use Rattle.asn1_names.specs.ModuleTerms.PresenceTerm.{Needed}
use Rattle.asn1_names.specs.ModuleTerms.TypeTerm.{Under, Structure, Repeated, Alternatives, Plain, Reference}
use Rattle.asn1_names.specs.Occurrences.{first_word, present_or, word_or}
use Rattle.asn1_names.specs.TermViews.{alternative_terms, component_terms, plain_term, row_terms, structure_term}
use Rattle.asn1_names.specs.TermViews.{presence_term, tag_term, token_term, type_term}
use Rattle.placing_laws.proofs.TreeRanges.{Ranged, range_order}

-- the first word of a type stands at a place or behind it, and no later than those of the types in it
pub record Leads (from : ℕ) (of : TypeTerm) : Type 0 where
  pub begins : from ≤ (first_word of).at
  pub inside : (inner : TypeTerm) → Within inner of → (first_word of).at ≤ (first_word inner).at

pub leads_before : {from place : ℕ} {of : TypeTerm} → place ≤ from → Leads from of → Leads place of
leads_before before leads = record { begins = let e = leads.begins in omega arith; inside = leads.inside }

-- ---- types by their words

plain_alone : (word : Token) (of : PlainTerm) (limits : List LimitTerm) (inner : TypeTerm) →
    Within inner (Plain word of limits) → word.at ≤ (first_word inner).at
plain_alone word of limits _ itself = omega arith

pub lone_plain : {from : ℕ} (word : Token) (of : PlainTerm) (limits : List LimitTerm) → from ≤ word.at →
    Leads from (Plain word of limits)
lone_plain word of limits here = record { begins = here; inside = plain_alone word of limits }

name_alone : (module_name : Option Token) (name : Token) (limits : List LimitTerm) (inner : TypeTerm) →
    Within inner (Reference module_name name limits) → (present_or module_name name).at ≤ (first_word inner).at
name_alone module_name name limits _ itself = omega arith

pub lone_name : {from : ℕ} (module_name : Option Token) (name : Token) (limits : List LimitTerm) →
    from ≤ (present_or module_name name).at → Leads from (Reference module_name name limits)
lone_name module_name name limits here = record { begins = here; inside = name_alone module_name name limits }

-- a type that holds no other
pub leads_name : (from high : ℕ) (x : PlainType) (limits : List LimitTerm) →
    Ranged from (plain_type_tree x) high → Leads from (plain_term x limits)
leads_name from high (plain.Simple word) limits within = lone_plain word _ limits within.0
leads_name from high (plain.Integer x) limits within = lone_plain x.word _ limits within.1.0
leads_name from high (plain.Enumerated x) limits within = lone_plain x.word _ limits within.1.0
leads_name from high (plain.BitString x) limits within = lone_plain x.word _ limits within.1.0
leads_name from high (plain.OctetString word) limits within = lone_plain word _ limits within.1.0
leads_name from high (plain.ObjectIdentifier word) limits within = lone_plain word _ limits within.1.0
leads_name from high (plain.Any x) limits within = lone_plain x.word _ limits within.1.0
leads_name from high (plain.Named x) limits within = named x.name x.member within.1.0
  where
    named : (name : Token) (member : Option Token) → from ≤ name.at → Leads from (elim member as (λ _. TypeTerm) [
      | None ↦ Reference None name limits
      | Some end ↦ Reference (Some name) end limits
    ])
    named name None here = lone_name None name limits here
    named name (Some end) here = lone_name (Some name) end limits here

-- ---- types that hold others

-- a word that may stand before another one
option_word : (word : Option Token) (behind : Token) {low high : ℕ} →
    Ranged low (option_tree (option_map Leaf word)) high → high ≤ behind.at →
    (low ≤ (present_or word behind).at) × ((present_or word behind).at ≤ behind.at)
option_word None behind within before = (omega arith, omega arith)
option_word (Some word) behind within before =
    let first = within.0 in let second = within.1 in (omega arith, omega arith)

number_word : (is : Bool) (number behind : Token) → number.at ≤ behind.at →
    let word = word_or (if is then Digits false number else Called number) behind in
    (number.at ≤ word.at) × (word.at ≤ behind.at)
number_word true number behind before = (before, omega arith)
number_word false number behind before = (omega arith, before)

under_inside : (tag : TagTerm) (mode : Option Token) (of inner : TypeTerm) →
    (first_word (Under tag mode of)).at ≤ (first_word of).at →
    ((inside : TypeTerm) → Within inside of → (first_word of).at ≤ (first_word inside).at) →
    Within inner (Under tag mode of) → (first_word (Under tag mode of)).at ≤ (first_word inner).at
under_inside tag mode of _ before each itself = omega arith
under_inside tag mode of inner before each (tagged w) = let e = each inner w in omega arith

leads_tagged : (tag : Tag) (mode : Option Token) (of : TypeTerm) {low between high : ℕ} →
    Ranged low (tag_tree tag) between → Ranged between (option_tree (option_map Leaf mode)) high → Leads high of →
    Leads low (Under (tag_term tag) mode of)
leads_tagged tag mode of {low} {between} {high} in_tag in_mode leads =
    let word = option_word mode (first_word of) in_mode leads.begins in
    let word_from = word.0 in
    let bracket = in_tag.1.0 in
    let bracket_end = in_tag.1.1 in
    let number_from = in_tag.2.2.1.0 in
    let number_end = in_tag.2.2.1.1 in
    let last = in_tag.2.2.2 in
    let number = number_word (is_number tag.number) tag.number (present_or mode (first_word of)) (omega arith) in
    let number_first = number.0 in
    let number_last = number.1 in
    let class = option_word tag.class (word_or (token_term tag.number) (present_or mode (first_word of)))
    in_tag.2.1 (omega arith) in
    let class_first = class.0 in
    let class_last = class.1 in
    let mode_last = word.1 in
    record {
      begins = omega arith;
      inside = λ inner. under_inside (tag_term tag) mode of inner (omega arith) leads.inside;
    }

-- each member's type leads
AreLed : ℕ → MemberTerms → Type 0
AreLed from parts =
    (k : ℕ) (of : TypeTerm) (presence : PresenceTerm) → IsMember parts k of presence → Leads from of

structure_inside : (word : Token) (parts : MemberTerms) (limits : List LimitTerm) (from : ℕ) (inner : TypeTerm) →
    word.at ≤ from → AreLed from parts → Within inner (Structure word parts limits) →
    word.at ≤ (first_word inner).at
unfolding AreLed
structure_inside word parts limits from _ before led itself = omega arith
structure_inside word parts limits from inner before led (component {k = k} {of = of} {presence = presence} is w) =
    let leads = led k of presence is in
    let begins = leads.begins in
    let inside = leads.inside inner w in
    omega arith

alternatives_inside : (word : Token) (parts : MemberTerms) (limits : List LimitTerm) (from : ℕ) (inner : TypeTerm) →
    word.at ≤ from → AreLed from parts → Within inner (Alternatives word parts limits) →
    word.at ≤ (first_word inner).at
unfolding AreLed
alternatives_inside word parts limits from _ before led itself = omega arith
alternatives_inside word parts limits from inner before led (alternative {k = k} {of = of} {presence = presence} is
    w) =
    let leads = led k of presence is in
    let begins = leads.begins in
    let inside = leads.inside inner w in
    omega arith

repeated_inside : (word : Token) (size : Option (List RangeTerm)) (of inner : TypeTerm) (from : ℕ) → word.at ≤ from →
    Leads from of → Within inner (Repeated word size of) → word.at ≤ (first_word inner).at
repeated_inside word size of _ from before leads itself = omega arith
repeated_inside word size of inner from before leads (element w) =
    let begins = leads.begins in
    let inside = leads.inside inner w in
    omega arith

no_members : (from : ℕ) → AreLed from NoMembers
unfolding AreLed
no_members from k of presence is = elim is [ ]

member_more : (name : Token) (of : TypeTerm) (presence : PresenceTerm) (rest : MemberTerms) (from : ℕ) → Leads from of →
    AreLed from rest → AreLed from (Member name of presence rest)
unfolding AreLed
member_more name of presence rest from leads led _ _ _ first_member = leads
member_more name of presence rest from leads led _ _ _ (further_member {of = other} {presence = further} {k = k} is) =
    led k other further is

led_before : (from place : ℕ) (parts : MemberTerms) → place ≤ from → AreLed from parts → AreLed place parts
unfolding AreLed
led_before from place parts before led k of presence is = leads_before before (led k of presence is)

mutual
  pub type_leads : (x : TypeText) (low high : ℕ) → Ranged low (type_tree x) high → Leads low (type_term x)
  type_leads (Tagged' tag mode place of) low high within = leads_tagged tag.value mode (type_term of) within.1
      within.2.1 (type_leads of within.2.0 high within.2.2)
  type_leads (Structured word content) low high within =
      structure_leads word content low within.0 high within.1.0 within.1.1 within.2
  type_leads (Choice' word shape row constraints) low high within =
      let led = alternatives_led row Empty within.2.0 within.2.2.0 within.2.2.1 in
      let before = within.1.1 in
      let sign = within.2.1 in
      let order = led.1 in
      record {
        begins = within.1.0;
        inside = λ inner. alternatives_inside word (alternative_terms row) _ led.0 inner (omega arith) led.2;
      }
  type_leads (APlain of constraints) low high within = leads_name low within.0 of _ within.1

  structure_leads : (word : Token) (x : StructureText) (low between high : ℕ) → low ≤ word.at → word.at < between →
      Ranged between (structure_tree x) high → Leads low (structure_term word x)
  structure_leads word (Components' components constraints) low between high here before within =
      let sign = within.1 in
      let led = held_led components within.0 within.2.0 within.2.1 in
      record {
        begins = here;
        inside = λ inner. structure_inside word (component_terms components) _ within.0 inner (omega arith) led;
      }
  structure_leads word (ListOf' size place of) low between high here before within =
      let sizes = range_order (option_tree (option_map list_size_tree size)) within.1 in
      let sign = within.2.1 in
      let leads = type_leads of within.2.0 high within.2.2 in
      record {
        begins = here;
        inside = λ inner. repeated_inside word _ (type_term of) inner within.2.0 (omega arith) leads;
      }

  held_led : (x : Held-StructureText-Components-0) (low high : ℕ) → Ranged low (components_held x) high →
      AreLed low (component_terms x)
  held_led NoRow low high within = no_members low
  held_led (ARow shape row) low high within =
      let led = components_led row Empty low high within in
      led_before led.0 low (row_terms row) led.1 led.2

  components_led : {n : _} (row : Row_of-Component n) (before : Tree) (low high : ℕ) →
      Ranged low (components_row before row) high →
      (from : ℕ) × Ranged low before from × AreLed from (row_terms row)
  components_led end_of-Component before low high within = (high, within, no_members high)
  components_led (more_of-Component name of presence others) before low high within =
      let rest = components_led others (After before (component_parts name (type_tree of) presence)) low high within in
      let one = rest.1.2 in
      let leads = type_leads of one.0 one.2.0 one.2.1 in
      let name_first = one.1.0 in
      let name_last = one.1.1 in (
        rest.1.0,
        rest.1.1,
        member_more name (type_term of) (presence_term presence) (row_terms others) rest.1.0
            (leads_before (omega arith) leads)
            (led_before rest.0 rest.1.0 (row_terms others)
            (range_order (component_parts name (type_tree of) presence) one) rest.2),
      )

  alternatives_led : {n : _} (row : Row_of-Alternative n) (before : Tree) (low high : ℕ) →
      Ranged low (alternatives_row before row) high →
      (from : ℕ) × Ranged low before from × AreLed from (alternative_terms row)
  alternatives_led end_of-Alternative before low high within = (high, within, no_members high)
  alternatives_led (more_of-Alternative name of others) before low high within =
      let rest = alternatives_led others (After before (Pair (Leaf name) (type_tree of))) low high within in
      let one = rest.1.2 in
      let leads = type_leads of one.0 rest.0 one.2 in
      let name_first = one.1.0 in
      let name_last = one.1.1 in (
        rest.1.0,
        rest.1.1,
        member_more name (type_term of) Needed (alternative_terms others) rest.1.0
            (leads_before (omega arith) leads)
            (led_before rest.0 rest.1.0 (alternative_terms others)
            (range_order (Pair (Leaf name) (type_tree of)) one) rest.2),
      )
