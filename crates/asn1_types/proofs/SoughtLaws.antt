-- SoughtLaws: a text of DEFAULT is looked for through names, and a step at a time (X.680, sections 16 and 25.1).
use Rattle.std.proofs.Common.{◌≡◌, ◌+◌, ◌<◌, ℕ, List, Option, None, Some, ap, arith, refl, sym}
use Rattle.std.proofs.Math.Path.{subst}
use Rattle.std.specs.Borrow.{Bor}
use Rattle.token_grammar.specs.Form.{Tree}
use Rattle.token_grammar.specs.declared.token.Token.{Token}
use Rattle.asn1_values_syntax.specs.ValueTrees.{value_tree}
use Rattle.asn1_values_syntax.specs.declared.value.ValueText.{ValueText}
use Rattle.asn1_syntax.specs.declared.type_text.TypeText.{TypeText}
use Rattle.asn1_names.specs.declared.standard_module.StandardType.{StandardType}
use Rattle.asn1_names.specs.CodeMeanings.{IsTypeNumber, IsTypeOf, IsValueNumber}
use Rattle.asn1_names.specs.DefaultTexts.{HasDefault}
use Rattle.asn1_names.specs.DefaultTexts.HasDefault.{named}
use Rattle.asn1_names.specs.FirstModuleFault.{AreFaultless}
use Rattle.asn1_names.specs.ModuleTerms.{LimitTerm, ModuleTerm, NumberTerm, TypeTerm}
use Rattle.asn1_names.specs.ModuleTerms.TypeTerm.{Reference}
use Rattle.asn1_names.specs.NameMeaning.{Meaning, reference_meaning}
use Rattle.asn1_names.specs.NameMeaning.Meaning.{StandardType as MeansStandard, TypeAt, ValueAt}
use Rattle.asn1_names.specs.Occurrences.{Stands, type_assigned}
use Rattle.asn1_names.specs.PassedNames.{Passed}
use Rattle.asn1_names.specs.ResolvedTypes.{HasDefaultText}
use Rattle.asn1_names.specs.ResolvedTypes.HasDefaultText.{of_type, of_value}
use Rattle.asn1_names.specs.TermViews.{type_term}
use Rattle.asn1_names.specs.WordViews.{standard_syntax_of}
use Rattle.asn1_names.proofs.OneNumber.{at_type, not_both, same_types}
use Rattle.asn1_types.specs.FollowedNames.{LeadsBy, NamesNext}
use Rattle.asn1_types.specs.FollowedNames.LeadsBy.{arrived, further}
use Rattle.asn1_types.specs.MeasuredTypes.{IsMeasured}
use Rattle.asn1_types.specs.NextTypes.{LeadsToStandard}
use Rattle.asn1_types.specs.SoughtDefaults.{StandsWithin, TellsDefault, TellsSought}
use Rattle.asn1_types.specs.ToldMeanings.{TellsDefaultText}
use Rattle.asn1_types.specs.declared.defaults.Sought.{Sought}
use Rattle.asn1_types.specs.declared.defaults.Sought.TheVariants as sought
use Rattle.asn1_types.specs.declared.following.Followed.{Followed}
use Rattle.asn1_types.proofs.BuildingLaws.{end_measured}

-- ---- names

reference_down : {ms : List ModuleTerm} {m v i w : ℕ} {module_name : Option Token} {name : Token}
    {limits : List LimitTerm} {of : TypeTerm} {path : List ℕ} {text : Tree} →
    reference_meaning ms m module_name name ≡ TypeAt v i of →
    HasDefault ms m (Reference module_name name limits) path w text → HasDefault ms v of path w text
reference_down {ms = ms} {v = v} {i = i} {w = w} {of = of} {path = path} {text = text} means
    (named {v = u} {i = j} {of = other} also h) =
    at_type (λ x t. HasDefault ms x t path w text) v u of other (same_types _ v i u j of other means also) h

next_down : {ms : List ModuleTerm} {m v : ℕ} {of next : TypeTerm} (path : List ℕ) (w : ℕ) (text : Tree) →
    NamesNext ms m of v next → HasDefault ms m of path w text → HasDefault ms v next path w text
next_down {ms = ms} {m = m} {next = next} path w text names h =
    subst (λ x. HasDefault ms x next path w text) names.in_module
    (reference_down names.means (subst (λ t. HasDefault ms m t path w text) names.is h))

next_up : {ms : List ModuleTerm} {m v : ℕ} {of next : TypeTerm} (path : List ℕ) (w : ℕ) (text : Tree) →
    NamesNext ms m of v next → HasDefault ms v next path w text → HasDefault ms m of path w text
next_up {ms = ms} {m = m} {next = next} path w text names h =
    subst (λ t. HasDefault ms m t path w text) (sym names.is)
    (named names.means (subst (λ x. HasDefault ms x next path w text) (sym names.in_module) h))

names_down : {ms : List ModuleTerm} {m v : ℕ} {of end : TypeTerm} {names : List Passed} (path : List ℕ) (w : ℕ)
    (text : Tree) → LeadsBy ms m of names v end → HasDefault ms m of path w text → HasDefault ms v end path w text
names_down path w text arrived h = h
names_down path w text (further next rest) h = names_down path w text rest (next_down path w text next h)

names_up : {ms : List ModuleTerm} {m v : ℕ} {of end : TypeTerm} {names : List Passed} (path : List ℕ) (w : ℕ)
    (text : Tree) → LeadsBy ms m of names v end → HasDefault ms v end path w text → HasDefault ms m of path w text
names_up path w text arrived h = h
names_up path w text (further next rest) h = next_up path w text next (names_up path w text rest h)

-- what is told of the type that names lead to is told of the first name
pub sought_through : (ms : List ModuleTerm) (m v : ℕ) (of end : TypeTerm) (names : List Passed) (path : List ℕ)
    (told : Sought) → LeadsBy ms m of names v end → TellsSought ms v end path v told → TellsSought ms m of path v told
sought_through ms m v of end names path (sought.Text text) leads tells = names_up path v (value_tree text.now) leads
    tells
sought_through ms m v of end names path (sought.Within inner rest) leads tells = (
  record {
    down = λ w text h. tells.0.down w text (names_down path w text leads h);
    up = λ w text h. names_up path w text leads (tells.0.up w text h);
  },
  λ most whole. tells.1 most (end_measured leads whole),
)
sought_through ms m v of end names path sought.Nothing leads tells = λ w text h.
    tells w text (names_down path w text leads h)

standard_none : {ms : List ModuleTerm} {m w : ℕ} {module_name : Option Token} {name : Token}
    {limits : List LimitTerm} {path : List ℕ} {text : Tree} (standard : _) →
    reference_meaning ms m module_name name ≡ MeansStandard standard →
    HasDefault ms m (Reference module_name name limits) path w text → ⊥
standard_none standard means (named {v = v} {i = i} {of = of} also h) = not_both _ v i of standard also means

-- the types of CMIP-1 have no DEFAULT
pub none_in_standard : (ms : List ModuleTerm) (m : ℕ) (of : TypeTerm) (path : List ℕ) (followed : Followed)
    (standard : StandardType) → LeadsToStandard ms m of followed standard → (w : ℕ) (text : Tree) →
    HasDefault ms m of path w text → ⊥
none_in_standard ms m of path followed standard to w text h =
    standard_none (standard_syntax_of standard) to.means (names_down path w text to.leads h)

-- ---- step by step

-- where the loop stands: in a type of fewer nodes, at a path at which stands what is looked for
pub record IsOnPath (ms : List ModuleTerm) (m : ℕ) (of : TypeTerm) (path : List ℕ) (v : ℕ) (left : TypeTerm)
    (rest : List ℕ) (steps : ℕ) : Type 0 where
  pub stands : StandsWithin ms m of path v left rest
  pub most : ℕ
  pub counted : most + steps ≡ 10000
  pub measured : IsMeasured ms v left most

pub path_begins : (ms : List ModuleTerm) (m : ℕ) (of : TypeTerm) (path : List ℕ) → IsMeasured ms m of 10000 →
    IsOnPath ms m of path m of path 0
path_begins ms m of path whole = record {
  stands = record { down = λ w text h. h; up = λ w text h. h };
  most = 10000;
  counted = refl;
  measured = whole;
}

pub path_goes_on : (ms : List ModuleTerm) (m : ℕ) (of : TypeTerm) (path : List ℕ) (v : ℕ) (left : TypeTerm)
    (rest : List ℕ) (steps u : ℕ) (told : Sought) (inner : Bor TypeText) (behind : Bor (List ℕ)) →
    told ≡ sought.Within inner behind → IsOnPath ms m of path v left rest steps →
    ((document : ℕ) → AreFaultless ms → Stands ms document v left → TellsSought ms v left rest u told) →
    IsOnPath ms m of path u (type_term inner.now) behind.now (steps + 1)
path_goes_on ms m of path v left rest steps u told inner behind is on tells =
    let told = subst (λ t. TellsSought ms v left rest u t) is
    (tells on.measured.document on.measured.faultless on.measured.stands) in
    let fewer = told.1 on.most on.measured in record {
      stands = record {
        down = λ w text h. told.0.down w text (on.stands.down w text h);
        up = λ w text h. on.stands.up w text (told.0.up w text h);
      };
      most = fewer.0;
      counted = omega (arith, fewer.1, on.counted);
      measured = fewer.2;
    }

pub path_ends_at : (ms : List ModuleTerm) (m : ℕ) (of : TypeTerm) (path : List ℕ) (v : ℕ) (left : TypeTerm)
    (rest : List ℕ) (steps u : ℕ) (told : Sought) (text : Bor ValueText) → told ≡ sought.Text text →
    IsOnPath ms m of path v left rest steps →
    ((document : ℕ) → AreFaultless ms → Stands ms document v left → TellsSought ms v left rest u told) →
    HasDefault ms m of path u (value_tree text.now)
path_ends_at ms m of path v left rest steps u told text is on tells =
    on.stands.up u (value_tree text.now) (subst (λ t. TellsSought ms v left rest u t) is
    (tells on.measured.document on.measured.faultless on.measured.stands))

pub path_leads_nowhere : (ms : List ModuleTerm) (m : ℕ) (of : TypeTerm) (path : List ℕ) (v : ℕ) (left : TypeTerm)
    (rest : List ℕ) (steps u : ℕ) (told : Sought) → told ≡ sought.Nothing →
    IsOnPath ms m of path v left rest steps →
    ((document : ℕ) → AreFaultless ms → Stands ms document v left → TellsSought ms v left rest u told) →
    (w : ℕ) (text : Tree) → HasDefault ms m of path w text → ⊥
path_leads_nowhere ms m of path v left rest steps u told is on tells w text h =
    subst (λ t. TellsSought ms v left rest u t) is
    (tells on.measured.document on.measured.faultless on.measured.stands) w text (on.stands.down w text h)

pub path_is_short : (ms : List ModuleTerm) (m : ℕ) (of : TypeTerm) (path : List ℕ) (v : ℕ) (left : TypeTerm)
    (rest : List ℕ) (steps : ℕ) → IsOnPath ms m of path v left rest steps → 10000 < steps → ⊥
path_is_short ms m of path v left rest steps on past = omega (arith, on.counted, past)

-- ---- the meaning of a name

type_tells : (ms : List ModuleTerm) (m i : ℕ) (of : TypeTerm) (path : List ℕ) (told : Option (ℕ × Bor ValueText)) →
    TellsDefault ms m of path told → TellsDefaultText ms (TypeAt m i of) path told
type_tells ms m i of path None none = λ w text h. none w text (of_types h)
  where
    of_types : {w : ℕ} {text : Tree} → HasDefaultText ms (TypeAt m i of) path w text → HasDefault ms m of path w text
    of_types (of_type h) = h
type_tells ms m i of path (Some x) has = of_type has

value_tells : (ms : List ModuleTerm) (m i : ℕ) (of : TypeTerm) (number : Option NumberTerm) (value : Tree)
    (path : List ℕ) (told : Option (ℕ × Bor ValueText)) → TellsDefault ms m of path told →
    TellsDefaultText ms (ValueAt m i of number value) path told
value_tells ms m i of number value path None none = λ w text h. none w text (of_values h)
  where
    of_values : {w : ℕ} {text : Tree} → HasDefaultText ms (ValueAt m i of number value) path w text →
        HasDefault ms m of path w text
    of_values (of_value h) = h
value_tells ms m i of number value path (Some x) has = of_value has

pub type_default : (ms : List ModuleTerm) (number : ℕ) (meant : Meaning) (path : List ℕ)
    (told : Option (ℕ × Bor ValueText)) → IsTypeNumber ms number meant →
    ((m : ℕ) (of : TypeTerm) → IsTypeOf ms number m of → TellsDefault ms m of path told) →
    TellsDefaultText ms meant path told
type_default ms number meant path told means at =
    subst (λ n. TellsDefaultText ms n path told) (sym means.is)
    (type_tells ms means.numbered.in_module means.numbered.place means.of path told
    (at means.numbered.in_module means.of (record {
      numbered = means.numbered;
      at = means.at;
      module_is = refl;
      is = ap type_assigned means.assigns;
    })))

pub value_default : (ms : List ModuleTerm) (number : ℕ) (meant : Meaning) (path : List ℕ)
    (told : Option (ℕ × Bor ValueText)) → IsValueNumber ms number meant →
    ((m : ℕ) (of : TypeTerm) → IsTypeOf ms number m of → TellsDefault ms m of path told) →
    TellsDefaultText ms meant path told
value_default ms number meant path told means at =
    subst (λ n. TellsDefaultText ms n path told) (sym means.is)
    (value_tells ms means.numbered.in_module means.numbered.place means.of means.stated means.text path told
    (at means.numbered.in_module means.of (record {
      numbered = means.numbered;
      at = means.at;
      module_is = refl;
      is = ap type_assigned means.assigns;
    })))
