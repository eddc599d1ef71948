-- SectionLaws: the values of steps and of pairs, and that those of rules and of instances are those of sections.
use Rattle.std.proofs.Common.{◌≡◌, ◌⊎◌, ◌<◌, ℕ, zero, suc, List, [], ◌∷◌, Option, None, Some, refl, sym, arith, inl}
use Rattle.std.proofs.Common.{inr, get_or, length, map, slice_get, subst}
use Rattle.std.specs.Prelude.{Contains, MatchOption}
use Rattle.std.specs.Option.{option_and_then}
use Rattle.token_grammar.specs.declared.token.Token.{Token}
use Rattle.token_grammar.specs.Form.{Tree}
use Rattle.term_values.specs.Syntaxes.{TypeSyntax}
use Rattle.asn1_names.specs.CodeMeanings.{Means}
use Rattle.asn1_names.specs.ModuleTerms.{ModuleTerm}
use Rattle.asn1_names.specs.NameMeaning.{Meaning}
use Rattle.asn1_names.specs.ResolvedTypes.{HasSyntax}
use Rattle.asn1_names.specs.declared.name_tables.Meaning.{Meaning as CodeMeaning}
use Rattle.gdmo_names.specs.InStep.{AreEach}
use Rattle.gdmo_names.specs.Mentions.Role.{GivenAttribute, NameAttribute}
use Rattle.gdmo_names.specs.PartTerms.{InstanceTerm, PartTerms, RuleTerm, StepTerm, TakenTerm}
use Rattle.gdmo_names.specs.PartTerms.StepTerm.{AddTo, EmitOf, ReplyWith, SetTo}
use Rattle.gdmo_names.specs.PartTerms.TakenTerm.{OneWord, OtherValue, TheArgument}
use Rattle.gdmo_names.specs.RuleWords.{HasStep}
use Rattle.gdmo_names.specs.ValueNames.{BeginsIn}
use Rattle.gdmo_begun_names.specs.declared.begun_names.BegunNames.{BegunNames}
use Rattle.gdmo_begun_names.specs.BegunMarks.{AnyFirst, Marks}
use Rattle.gdmo_begun_names.proofs.MarkLaws.{both_marked, marked_by, none_marked}
use Rattle.begun_values.specs.MeantSyntaxes.{BeginsOf, MayMean}
use Rattle.begun_values.specs.SectionValues.{InstanceFirsts, IsSectionValue, OptionalFirsts, PairFirsts, RuleFirsts}
use Rattle.begun_values.specs.SectionValues.{SectionFirsts, StepFirsts, TakenFirsts}
use Rattle.begun_values.specs.SectionValues.IsSectionValue.{set, emitted, replied, naming, given}
use Rattle.begun_values.proofs.ListedLaws.{any_of, any_with}
use Rattle.begun_values.proofs.MeantLaws.{syntaxes_marked}

-- ---- a value of what may be meant

pub valued : (ms : List ModuleTerm) (Of : TypeSyntax → Type 0) (code : Option CodeMeaning) (text : Tree)
    (before after : BegunNames) → MayMean ms Of code →
    MatchOption code (after ≡ before) (λ c. (meant : Meaning) → Means ms c meant →
    Marks (BeginsOf (HasSyntax ms meant) text) before after) → Marks (BeginsOf Of text) before after
valued ms Of None text before after may same =
    subst (λ z. Marks (BeginsOf Of text) before z) (sym same)
    (none_marked (BeginsOf Of text) before (λ t h. may h.0 h.1))
valued ms Of (Some code) text before after may marked =
    syntaxes_marked (HasSyntax ms may.meant) Of text (λ s h. (may.has s).1 h) (λ s h. (may.has s).0 h)
    (marked may.meant may.means)

-- ---- what SET and REPLY take

pub taken_marked : (Of : TypeSyntax → Type 0) (taken : TakenTerm) (text : Tree) {before after : BegunNames} →
    OtherValue text ≡ taken → Marks (BeginsOf Of text) before after → Marks (TakenFirsts Of taken) before after
taken_marked Of taken text {before = before} {after = after} is h =
    subst (λ x. Marks (TakenFirsts Of x) before after) is h

pub argument_marked : (Of : TypeSyntax → Type 0) (taken : TakenTerm) (word : Token) (names : BegunNames) →
    TheArgument word ≡ taken → Marks (TakenFirsts Of taken) names names
argument_marked Of taken word names is = subst (λ x. Marks (TakenFirsts Of x) names names) is
    (none_marked (TakenFirsts Of (TheArgument word)) names (λ t h. h))

pub word_marked : (Of : TypeSyntax → Type 0) (taken : TakenTerm) (word : Token) (names : BegunNames) →
    OneWord word ≡ taken → Marks (TakenFirsts Of taken) names names
word_marked Of taken word names is = subst (λ x. Marks (TakenFirsts Of x) names names) is
    (none_marked (TakenFirsts Of (OneWord word)) names (λ t h. h))

pub stated_marked : (Of : TypeSyntax → Type 0) (stated : Option Tree) (text : Tree) {before after : BegunNames} →
    stated ≡ Some text → Marks (BeginsOf Of text) before after → Marks (OptionalFirsts Of stated) before after
stated_marked Of stated text {before = before} {after = after} is h =
    subst (λ x. Marks (OptionalFirsts Of x) before after) (sym is) h

pub unstated_marked : (Of : TypeSyntax → Type 0) (stated : Option Tree) (names : BegunNames) → stated ≡ None →
    Marks (OptionalFirsts Of stated) names names
unstated_marked Of stated names is = subst (λ x. Marks (OptionalFirsts Of x) names names) (sym is)
    (none_marked (OptionalFirsts Of None) names (λ t h. h))

-- ---- the number beside an element

pub each_target : {X A : Type 0} (Is : A → Option ℕ → Type 0) (view : X → A) (xs : List X) (ys : List (Option ℕ))
    (k : ℕ) (x : X) → AreEach Is (map view xs) ys → k < length xs → x ≡ get_or xs k x →
    Is (view x) (option_and_then (λ target. target) (slice_get ys k))
each_target Is view [] ys k x each within at = absurd (omega (arith, within))
each_target Is view (z ∷ zs) [] k x each within at = absurd each
each_target Is view (z ∷ zs) (y ∷ ys) zero x each within at = subst (λ w. Is (view w) y) (sym at) each.0
each_target Is view (z ∷ zs) (y ∷ ys) (suc k) x each within at =
    each_target Is view zs ys k x each.1 (omega (arith, within)) at

-- ---- rules and instances

step_taken : (parts : PartTerms) (rule : RuleTerm) (step : StepTerm) (t : Token) → HasStep parts rule step →
    StepFirsts parts rule step t → SectionFirsts parts t
step_taken parts rule (SetTo label (TheArgument word)) t has h = absurd h
step_taken parts rule (SetTo label (OneWord word)) t has h = absurd h
step_taken parts rule (SetTo label (OtherValue text)) t has h =
    record { text = text; syntax = h.0; stands = set has h.1; begins = h.2 }
step_taken parts rule (AddTo number label) t has h = absurd h
step_taken parts rule (EmitOf label None) t has h = absurd h
step_taken parts rule (EmitOf label (Some text)) t has h =
    record { text = text; syntax = h.0; stands = emitted has h.1; begins = h.2 }
step_taken parts rule (ReplyWith (TheArgument word)) t has h = absurd h
step_taken parts rule (ReplyWith (OneWord word)) t has h = absurd h
step_taken parts rule (ReplyWith (OtherValue text)) t has h =
    record { text = text; syntax = h.0; stands = replied has h.1; begins = h.2 }

rule_section : (parts : PartTerms) (t : Token) → AnyFirst (RuleFirsts parts) parts.rules t → SectionFirsts parts t
rule_section parts t h =
    let rule = any_of (RuleFirsts parts) parts.rules t h in
    let step = any_of (StepFirsts parts rule.0) rule.0.steps t rule.2 in
    step_taken parts rule.0 step.0 t (record { stands = rule.1; has = step.1 }) step.2

instance_section : (parts : PartTerms) (t : Token) → AnyFirst (InstanceFirsts parts) parts.instances t →
    SectionFirsts parts t
instance_section parts t h = by found.2
  where
    found : (x : InstanceTerm) × (Contains parts.instances x) × InstanceFirsts parts x t
    found = any_of (InstanceFirsts parts) parts.instances t h

    by : InstanceFirsts parts found.0 t → SectionFirsts parts t
    by (inl one) =
        let pair = any_of (PairFirsts parts found.0.document NameAttribute) found.0.name t one in record {
          text = pair.0.value;
          syntax = pair.2.0;
          stands = naming found.1 pair.1 refl pair.2.1;
          begins = pair.2.2;
        }
    by (inr one) =
        let pair = any_of (PairFirsts parts found.0.document GivenAttribute) found.0.given t one in record {
          text = pair.0.value;
          syntax = pair.2.0;
          stands = given found.1 pair.1 refl pair.2.1;
          begins = pair.2.2;
        }

abbrev Stated : PartTerms → Token → Type 0
Stated parts t = AnyFirst (RuleFirsts parts) parts.rules t ⊎ AnyFirst (InstanceFirsts parts) parts.instances t

stated_step : (parts : PartTerms) (rule : RuleTerm) (step : StepTerm) (t : Token) → HasStep parts rule step →
    StepFirsts parts rule step t → Stated parts t
stated_step parts rule step t has h = inl (any_with (RuleFirsts parts) parts.rules rule t has.stands
    (any_with (StepFirsts parts rule) rule.steps step t has.has h))

section_stated : (parts : PartTerms) (t : Token) (h : SectionFirsts parts t) → Stated parts t
section_stated parts t h = by h.stands h.begins
  where
    by : {text : Tree} {syntax : TypeSyntax} → IsSectionValue parts text syntax →
        BeginsIn t syntax text → Stated parts t
    by {text = text} {syntax = syntax} (set {rule = rule} {label = label} has of) b =
        stated_step parts rule (SetTo label (OtherValue text)) t has (syntax, of, b)
    by {text = text} {syntax = syntax} (emitted {rule = rule} {label = label} has of) b =
        stated_step parts rule (EmitOf label (Some text)) t has (syntax, of, b)
    by {text = text} {syntax = syntax} (replied {rule = rule} has of) b =
        stated_step parts rule (ReplyWith (OtherValue text)) t has (syntax, of, b)
    by {syntax = syntax} (naming {instance = instance} {pair = pair} stands has is of) b =
        inr (any_with (InstanceFirsts parts) parts.instances instance t stands
        (inl (any_with (PairFirsts parts instance.document NameAttribute) instance.name pair t has
        (syntax, of, subst (BeginsIn t syntax) (sym is) b))))
    by {syntax = syntax} (given {instance = instance} {pair = pair} stands has is of) b =
        inr (any_with (InstanceFirsts parts) parts.instances instance t stands
        (inr (any_with (PairFirsts parts instance.document GivenAttribute) instance.given pair t has
        (syntax, of, subst (BeginsIn t syntax) (sym is) b))))

pub sections_marked : (parts : PartTerms) (rules : List RuleTerm) (instances : List InstanceTerm)
    {before between after : BegunNames} → parts.rules ≡ rules → parts.instances ≡ instances →
    Marks (AnyFirst (RuleFirsts parts) rules) before between →
    Marks (AnyFirst (InstanceFirsts parts) instances) between after → Marks (SectionFirsts parts) before after
sections_marked parts rules instances {before = before} {between = between} {after = after} same also p q =
    let One = AnyFirst (RuleFirsts parts) parts.rules in
    let Other = AnyFirst (InstanceFirsts parts) parts.instances in
    marked_by (λ t. One t ⊎ Other t) (SectionFirsts parts)
    (λ t h. elim h as (λ _. SectionFirsts parts t) [
      | inl one ↦ rule_section parts t one
      | inr other ↦ instance_section parts t other
    ]) (section_stated parts) (both_marked One Other
    (subst (λ xs. Marks (AnyFirst (RuleFirsts parts) xs) before between) (sym same) p)
    (subst (λ xs. Marks (AnyFirst (InstanceFirsts parts) xs) between after) (sym also) q))
