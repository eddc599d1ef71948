-- ReturningLaws: at names that lead to a type its syntax has a place for their constraints, and they leave of it what
-- the first name denotes (X.680, sections 16 and 49 to 51).
use Rattle.std.proofs.Common.{◌≡◌, ◌<◌, ◌≤◌, ◌+◌, ◌-◌, ℕ, zero, suc, List, [], ◌∷◌, ◌++◌, Option, Bool, true}
use Rattle.std.proofs.Common.{ap, arith, drop, get_or, length, refl, sym, ◌∙◌}
use Rattle.std.proofs.Math.Path.{subst}
use Rattle.std.proofs.lemmas.List.{length-map}
use Rattle.std.specs.Borrow.{Bor}
use Rattle.term_values.specs.Syntaxes.{TypeSyntax}
use Rattle.token_grammar.specs.declared.token.Token.{Token}
use Rattle.asn1_syntax.specs.declared.plain_type.PlainType.{PlainType}
use Rattle.asn1_syntax.specs.declared.plain_type.PlainType.TheVariants as plain
use Rattle.asn1_syntax.specs.declared.type_text.TypeText.{TypeText}
use Rattle.asn1_names.specs.declared.standard_module.StandardType.{StandardType}
use Rattle.asn1_names.specs.Constraining.{Constrains, is_size_limit}
use Rattle.asn1_names.specs.Constraining.Constrains.{no_more as constrained_not}
use Rattle.asn1_names.specs.DenotedSyntax.{Denotes}
use Rattle.asn1_names.specs.DenotedSyntax.Denotes.{standard as denotes_standard}
use Rattle.asn1_names.specs.FirstModuleFault.{AreFaultless}
use Rattle.asn1_names.specs.ModuleTerms.{LimitTerm, ModuleTerm, TypeTerm}
use Rattle.asn1_names.specs.ModuleTerms.TypeTerm.{Plain, Reference}
use Rattle.asn1_names.specs.NameMeaning.Meaning.{StandardType as MeansStandard}
use Rattle.asn1_names.specs.Narrowing.{can_narrow}
use Rattle.asn1_names.specs.Occurrences.{Stands}
use Rattle.asn1_names.specs.Occurrences.IsLimitOf.{reference}
use Rattle.asn1_names.specs.PassedNames.{Passed, Passes, Returns, passed_type}
use Rattle.asn1_names.specs.PassedNames.Passes.{arrived as passes_arrived, further as passes_further}
use Rattle.asn1_names.specs.PassedNames.Returns.{no_more, another}
use Rattle.asn1_names.specs.TermViews.{plain_term, type_term}
use Rattle.asn1_names.specs.TypeBase.{Base, HasBase, has_place}
use Rattle.asn1_names.specs.TypeBase.Base.{Standing}
use Rattle.asn1_names.specs.TypeBase.HasBase.{named as based_named, standard as based_standard}
use Rattle.asn1_names.specs.WordViews.{standard_syntax_of}
use Rattle.asn1_names.proofs.BaseLaws.{constrained_place, denoted_base, denoted_place}
use Rattle.asn1_names.proofs.FaultlessLaws.{faultless_place}
use Rattle.asn1_names.proofs.PassingLaws.{passed_denotes, passed_standard}
use Rattle.asn1_names.proofs.SayingLaws.{bounds_say}
use Rattle.asn1_names.proofs.WalkLaws.{named_is}
use Rattle.asn1_types.specs.BuiltSyntaxes.{AllTakeLimits, TakesLimits}
use Rattle.asn1_types.specs.FollowedNames.{AreKept, LeadsBy, kept_name, passed_name}
use Rattle.asn1_types.specs.FollowedNames.LeadsBy.{arrived, further}
use Rattle.asn1_types.specs.NextTypes.{LeadsToStandard, LeadsToType}
use Rattle.asn1_types.specs.declared.following.Followed.{Followed}
use Rattle.asn1_types.proofs.FollowLaws.{end_stands, next_stands}

-- ---- the constraints at a name

limits_of : TypeTerm → List LimitTerm
limits_of (Plain word of limits) = limits
limits_of (Reference module_name name limits) = limits
limits_of _ = []

plain_limits : (p : PlainType) (limits : List LimitTerm) → limits_of (plain_term p limits) ≡ limits
unfolding limits_of
plain_limits (plain.Simple word) limits = refl
plain_limits (plain.Integer x) limits = refl
plain_limits (plain.Enumerated x) limits = refl
plain_limits (plain.BitString x) limits = refl
plain_limits (plain.OctetString word) limits = refl
plain_limits (plain.ObjectIdentifier word) limits = refl
plain_limits (plain.Any x) limits = refl
plain_limits (plain.Named x) limits = ap limits_of (named_is x limits)

pub name_limits : (p : PlainType) (own : List LimitTerm) (of : TypeTerm) (module_name : Option Token) (name : Token)
    (limits : List LimitTerm) → of ≡ plain_term p own → of ≡ Reference module_name name limits → own ≡ limits
unfolding limits_of
name_limits p own of module_name name limits is named =
    sym (plain_limits p own) ∙ ap limits_of (sym is ∙ named)

-- ---- each name that leads to a type takes its constraints

-- a name stands where the syntax has a place for what stands at it
takes_at : {ms : List ModuleTerm} {m : ℕ} {module_name : Option Token} {name : Token} {limits : List LimitTerm}
    {base : Base} (document : ℕ) (syntax : TypeSyntax) → AreFaultless ms →
    Stands ms document m (Reference module_name name limits) → HasBase ms m (Reference module_name name limits) base →
    ((limit : LimitTerm) → has_place base limit ≡ true → can_narrow (is_size_limit limit) syntax ≡ true) →
    TakesLimits ms m (Reference module_name name limits) limits syntax
takes_at document syntax sound stands has place = record {
  said = λ limit there. bounds_say limit sound stands (reference there);
  placed = λ limit there. place limit (faultless_place sound stands (reference there) has);
}

base_by : {ms : List ModuleTerm} {m v : ℕ} {of end : TypeTerm} {path : List Passed} {base : Base} →
    LeadsBy ms m of path v end → HasBase ms v end base → HasBase ms m of base
base_by arrived has = has
base_by {ms = ms} {m = m} {base = base} (further next rest) has =
    subst (λ t. HasBase ms m t base) (sym next.is) (based_named next.means
    (subst (λ h. HasBase ms h _ base) (sym next.in_module) (base_by rest has)))

pub all_take : {ms : List ModuleTerm} {m v : ℕ} {of end : TypeTerm} {path : List Passed} {base : Base} (document : ℕ)
    (syntax : TypeSyntax) → AreFaultless ms → Stands ms document m of → LeadsBy ms m of path v end →
    HasBase ms v end base →
    ((limit : LimitTerm) → has_place base limit ≡ true → can_narrow (is_size_limit limit) syntax ≡ true) →
    AllTakeLimits ms path syntax
all_take document syntax sound stands arrived has place = tt
all_take {ms = ms} {m = m} {base = base} document syntax sound stands (further next rest) has place =
    let named = next_stands next in (
      takes_at document syntax sound (subst (λ t. Stands ms document m t) next.is stands)
          (subst (λ t. HasBase ms m t base) next.is (base_by (further next rest) has)) place,
      all_take named.0 syntax sound named.1 rest has place,
    )

all_and_last : {ms : List ModuleTerm} (path : List Passed) (x : Passed) (syntax : TypeSyntax) →
    AllTakeLimits ms path syntax → TakesLimits ms x.home (passed_type x) x.limits syntax →
    AllTakeLimits ms (path ++ x ∷ []) syntax
all_and_last [] x syntax all last = (last, tt)
all_and_last (y ∷ path) x syntax all last = (all.0, all_and_last path x syntax all.1 last)

-- ---- the way back

pub passes_by : {ms : List ModuleTerm} {m v : ℕ} {of end : TypeTerm} {path : List Passed} → LeadsBy ms m of path v end →
    Passes ms m of path v end
passes_by arrived = passes_arrived
passes_by {ms = ms} {m = m} {v = v} {end = end} {path = path} (further next rest) =
    subst (λ t. Passes ms m t path v end) (sym next.is) (passes_further next.means
    (subst (λ h. Passes ms h _ _ v end) (sym next.in_module) (passes_by rest)))

pub returned_place : {ms : List ModuleTerm} {path : List Passed} {before after : TypeSyntax} →
    Returns ms path before after → (b : Bool) → can_narrow b after ≡ can_narrow b before
returned_place no_more b = refl
returned_place (another back c) b = constrained_place c b ∙ returned_place back b

pub record AtPlace (ms : List ModuleTerm) (path : List Passed) (k : ℕ) (entry : ℕ × Bor TypeText) (syntax : TypeSyntax)
    : Type 0 where
  pub name : Passed
  pub is : kept_name entry ≡ passed_name name
  pub rest : drop k path ≡ name ∷ drop (suc k) path
  pub takes : AllTakeLimits ms path syntax → TakesLimits ms name.home (passed_type name) name.limits syntax

pub at_place : (ms : List ModuleTerm) (kept : List (ℕ × Bor TypeText)) (path : List Passed) (k : ℕ)
    (entry : ℕ × Bor TypeText) (syntax : TypeSyntax) → AreKept kept path → k < length kept →
    entry ≡ get_or kept k entry → AtPlace ms path k entry syntax
at_place ms [] path k entry syntax are within is = absurd (omega (arith, within))
at_place ms (x ∷ kept) [] k entry syntax are within is = absurd (cc)
at_place ms (x ∷ kept) (y ∷ path) zero entry syntax are within is = record {
  name = y;
  is = ap kept_name is ∙ ap (λ ts. get_or ts 0 (passed_name y)) are;
  rest = refl;
  takes = λ all. all.0;
}
at_place ms (x ∷ kept) (y ∷ path) (suc k) entry syntax are within is =
    let further = at_place ms kept path k entry syntax (ap (drop 1) are) (omega (arith, within)) is in record {
      name = further.name;
      is = further.is;
      rest = further.rest;
      takes = λ all. further.takes all.1;
    }

narrowed : (ms : List ModuleTerm) (x : Passed) (syntax before : TypeSyntax) →
    TakesLimits ms x.home (passed_type x) x.limits syntax → ((b : Bool) → can_narrow b before ≡ can_narrow b syntax) →
    TakesLimits ms x.home (passed_type x) x.limits before
narrowed ms x syntax before takes place = record {
  said = takes.said;
  placed = λ limit there. place (is_size_limit limit) ∙ takes.placed limit there;
}

constrained_as : (ms : List ModuleTerm) (entry : ℕ × Bor TypeText) (x : Passed) (before after : TypeSyntax) →
    kept_name entry ≡ passed_name x → ((module_name : Option Token) (name : Token) (limits : List LimitTerm) →
    type_term entry.1.now ≡ Reference module_name name limits →
    TakesLimits ms entry.0 (type_term entry.1.now) limits before →
    Constrains ms entry.0 (type_term entry.1.now) limits before after) →
    TakesLimits ms x.home (passed_type x) x.limits before →
    Constrains ms x.home (passed_type x) x.limits before after
constrained_as ms entry x before after same one takes =
    subst (λ (p : ℕ × TypeTerm). Constrains ms p.0 p.1 x.limits before after) same
    (one x.module_name x.name x.limits (ap (λ (p : ℕ × TypeTerm). p.1) same)
    (subst (λ (p : ℕ × TypeTerm). TakesLimits ms p.0 p.1 x.limits before) (sym same) takes))

-- a step of a loop from the last name on
pub return_step : (ms : List ModuleTerm) (kept : List (ℕ × Bor TypeText)) (behind : ℕ) (entry : ℕ × Bor TypeText)
    (syntax before after : TypeSyntax) → behind < length kept → entry ≡ get_or kept (length kept - 1 - behind) entry →
    ((module_name : Option Token) (name : Token) (limits : List LimitTerm) →
    type_term entry.1.now ≡ Reference module_name name limits →
    TakesLimits ms entry.0 (type_term entry.1.now) limits before →
    Constrains ms entry.0 (type_term entry.1.now) limits before after) →
    ((path : List Passed) → AreKept kept path → AllTakeLimits ms path syntax →
    Returns ms (drop (length kept - behind) path) syntax before) →
    (path : List Passed) → AreKept kept path → AllTakeLimits ms path syntax →
    Returns ms (drop (length kept - (behind + 1)) path) syntax after
return_step ms kept behind entry syntax before after within is one rest path are all =
    let k = length kept - 1 - behind in
    let at = at_place ms kept path k entry syntax are (omega (arith, within)) is in
    let name = at.name in
    let same = at.is in
    let before_is : length kept - behind ≡ suc k = omega (arith, within) in
    let after_is : k ≡ length kept - (behind + 1) = omega (arith, within) in
    let back : Returns ms (drop (suc k) path) syntax before =
    subst (λ n. Returns ms (drop n path) syntax before) before_is (rest path are all) in
    subst (λ n. Returns ms (drop n path) syntax after) after_is
    (subst (λ p. Returns ms p syntax after) (sym at.rest)
    (another back (constrained_as ms entry name before after same one (narrowed ms name syntax before (at.takes all)
    (returned_place back)))))

drop_whole : {X : Type 0} (xs : List X) → drop (length xs) xs ≡ []
drop_whole [] = refl
drop_whole (x ∷ xs) = drop_whole xs

pub return_begins : (ms : List ModuleTerm) (kept : List (ℕ × Bor TypeText)) (syntax : TypeSyntax) (path : List Passed) →
    AreKept kept path → Returns ms (drop (length kept - 0) path) syntax syntax
return_begins ms kept syntax path are =
    let lengths : length kept ≡ length path =
    sym (length-map kept kept_name) ∙ ap length are ∙ length-map path passed_name in
    let same : length kept - 0 ≡ length path = omega (arith, lengths) in
    subst (λ p. Returns ms p syntax syntax) (sym (ap (λ n. drop n path) same ∙ drop_whole path)) no_more

pub return_ends : (ms : List ModuleTerm) (kept : List (ℕ × Bor TypeText)) (behind : ℕ) (syntax left : TypeSyntax) →
    length kept ≤ behind → ((path : List Passed) → AreKept kept path → AllTakeLimits ms path syntax →
    Returns ms (drop (length kept - behind) path) syntax left) →
    (path : List Passed) → AreKept kept path → AllTakeLimits ms path syntax → Returns ms path syntax left
return_ends ms kept behind syntax left past told path are all =
    let none : length kept - behind ≡ 0 = omega (arith, past) in
    subst (λ n. Returns ms (drop n path) syntax left) none (told path are all)

-- ---- what the first name denotes

pub named_denoted : {ms : List ModuleTerm} {m : ℕ} {of : TypeTerm} (document : ℕ) (followed : Followed)
    (before after : TypeSyntax) → AreFaultless ms → Stands ms document m of → LeadsToType ms m of followed →
    Denotes ms followed.home (type_term followed.of.now) before →
    ((path : List Passed) → AreKept followed.passed.items path → AllTakeLimits ms path before →
    Returns ms path before after) → Denotes ms m of after
named_denoted document followed before after sound stands to denotes back =
    let base = denoted_base denotes in
    passed_denotes (passes_by to.leads) denotes (back to.path to.kept
    (all_take document before sound stands to.leads base.1 (denoted_place denotes base.1)))

pub standard_denoted : {ms : List ModuleTerm} {m : ℕ} {of : TypeTerm} (document : ℕ) (followed : Followed)
    (standard : StandardType) (before after : TypeSyntax) → before ≡ standard_syntax_of standard → AreFaultless ms →
    Stands ms document m of → LeadsToStandard ms m of followed standard →
    ((path : List Passed) → AreKept followed.passed.items path → AllTakeLimits ms path before →
    Returns ms path before after) → Denotes ms m of after
standard_denoted {ms = ms} document followed standard before after is sound stands to back =
    let x = to.last in
    let means = to.means ∙ ap MeansStandard (sym is) in
    let based : HasBase ms x.home (passed_type x) (Standing before) = based_standard means in
    let bare : Denotes ms x.home (Reference x.module_name x.name []) before = denotes_standard means constrained_not in
    let place = denoted_place bare (based_standard means) in
    let end = end_stands document stands to.leads in
    passed_standard x (passes_by to.leads) means (back (to.path ++ x ∷ []) to.kept
    (all_and_last to.path x before (all_take document before sound stands to.leads based place)
    (takes_at end.0 before sound end.1 based place)))
