-- FollowLaws: a type leads by names to one that is none, or to a type of CMIP-1 (X.680, section 16).
use Rattle.std.proofs.Common.{◌≡◌, ◌<◌, ◌+◌, ℕ, List, [], ◌∷◌, ◌++◌, Option, None, Some, length, map, refl}
use Rattle.std.proofs.Common.{ap, arith, sym, ◌∙◌}
use Rattle.std.proofs.Math.Path.{subst}
use Rattle.std.proofs.lemmas.List.{map-append}
use Rattle.std.specs.Borrow.{Bor}
use Rattle.token_grammar.specs.declared.token.Token.{Token}
use Rattle.asn1_syntax.specs.declared.module.Module.{Module}
use Rattle.asn1_syntax.specs.declared.plain_type.TypeName.{TypeName}
use Rattle.asn1_syntax.specs.declared.type_text.TypeText.{TypeText}
use Rattle.asn1_names.specs.declared.refusal.UnsupportedKind.TheVariants as unsupported
use Rattle.asn1_names.specs.declared.standard_module.StandardType.{StandardType}
use Rattle.asn1_names.specs.AssignmentNumbers.{assignment_count}
use Rattle.asn1_names.specs.CodeMeanings.{named_module, named_type}
use Rattle.asn1_names.specs.FirstModuleFault.{AreFaultless}
use Rattle.asn1_names.specs.FirstModuleFault.FaultKind.{ModuleUnknown, NotSupported, TypeUnknown}
use Rattle.asn1_names.specs.ModuleFaults.UnknownModuleAt.{of_module as module_unknown}
use Rattle.asn1_names.specs.ModuleFaults.UnknownTypeAt.{alone, of_module}
use Rattle.asn1_names.specs.ModuleFaults.UnsupportedAt.{type_word}
use Rattle.asn1_names.specs.ModuleTerms.{LimitTerm, ModuleTerm, TypeTerm}
use Rattle.asn1_names.specs.ModuleTerms.TypeTerm.{Reference}
use Rattle.asn1_names.specs.NameMeaning.{reference_meaning}
use Rattle.asn1_names.specs.NodeCount.{IsNoType}
use Rattle.asn1_names.specs.Occurrences.{Stands, type_assigned}
use Rattle.asn1_names.specs.PassedNames.{Passed}
use Rattle.asn1_names.specs.TermViews.{module_terms, type_term}
use Rattle.asn1_names.specs.TypeWalks.{IsName, IsNoName}
use Rattle.asn1_types.specs.FollowedNames.{AreKept, LeadsBy, NamesNext, NamesNothing, NamesStandard, kept_name}
use Rattle.asn1_types.specs.FollowedNames.{name_passed, passed_name}
use Rattle.asn1_types.specs.FollowedNames.LeadsBy.{arrived, further}
use Rattle.asn1_types.specs.FollowedNames.NamesNothing.{no_name, unknown}
use Rattle.asn1_types.specs.NextTypes.{LeadsToStandard, LeadsToType}
use Rattle.asn1_types.specs.declared.following.Followed.{Followed}
use Rattle.asn1_types.proofs.NumberedLaws.{type_stands}
use Rattle.asn1_types.proofs.WalkedLaws.{Walks, way_is_short}
use Rattle.asn1_types.proofs.WalkedLaws.Walks.{start, step}

-- ---- a name of no type

pub nothing_meant : (tables modules : List Module) (m : ℕ) (of : TypeTerm) (x : TypeName) → tables ≡ modules →
    IsName of (named_module x) (named_type x) →
    IsNoType (reference_meaning (module_terms tables) m (named_module x) (named_type x)) →
    NamesNothing (module_terms modules) m of
nothing_meant tables modules m of x same named none =
    subst (λ t. NamesNothing (module_terms modules) m t) (sym named.1)
    (unknown (subst (λ t. IsNoType (reference_meaning (module_terms t) m (named_module x) (named_type x))) same none))

-- in modules without faults a name is one of a type
pub known_name : (ms : List ModuleTerm) (document m : ℕ) (module_name : Option Token) (name : Token)
    (limits : List LimitTerm) → AreFaultless ms → Stands ms document m (Reference module_name name limits) →
    ¬ IsNoType (reference_meaning ms m module_name name)
known_name ms document m None name limits sound stands = λ none.
    sound TypeUnknown document name.at (alone stands none
    (λ other. sound (NotSupported unsupported.TypeWord) document name.at (type_word stands other refl)) refl)
known_name ms document m (Some module_name) name limits sound stands = λ none.
    sound TypeUnknown document name.at (of_module stands
    (λ missing. sound ModuleUnknown document module_name.at (module_unknown stands missing refl)) none refl)

pub names_no_type : {ms : List ModuleTerm} {m : ℕ} {of : TypeTerm} (document : ℕ) → AreFaultless ms →
    Stands ms document m of → NamesNothing ms m of → IsNoName of
names_no_type document sound stands (no_name is) = is
names_no_type {ms = ms} {m = m} document sound stands
    (unknown {module_name = module_name} {name = name} {limits = limits} none) =
    absurd (known_name ms document m module_name name limits sound stands none)

-- ---- what names lead to stands in its module

pub next_stands : {ms : List ModuleTerm} {m v : ℕ} {of named : TypeTerm} (next : NamesNext ms m of v named) →
    (document : ℕ) × Stands ms document v named
next_stands {ms = ms} {named = named} next =
    let stands = type_stands ms next.number next.numbered named next.at (ap type_assigned next.assigns) in
    (stands.0, subst (λ v. Stands ms stands.0 v named) next.in_module stands.1)

pub end_stands : {ms : List ModuleTerm} {m v : ℕ} {of end : TypeTerm} {path : List Passed} (document : ℕ) →
    Stands ms document m of → LeadsBy ms m of path v end → (its : ℕ) × Stands ms its v end
end_stands document stands arrived = (document, stands)
end_stands document stands (further next rest) =
    let named = next_stands next in end_stands named.0 named.1 rest

-- ---- one more name

pub leads_more : {ms : List ModuleTerm} {m v w : ℕ} {of at named : TypeTerm} {path : List Passed} →
    LeadsBy ms m of path v at → (next : NamesNext ms v at w named) →
    LeadsBy ms m of (path ++ name_passed next ∷ []) w named
leads_more arrived next = further next arrived
leads_more (further first rest) next = further first (leads_more rest next)

pub kept_more : (kept after : List (ℕ × Bor TypeText)) (path : List Passed) (v : ℕ) (at : Bor TypeText) (x : Passed) →
    AreKept kept path → (v, type_term at.now) ≡ passed_name x → after ≡ kept ++ (v, at) ∷ [] → AreKept after (path ++
    x ∷ [])
kept_more kept after path v at x so_far same pushed =
    ap (map kept_name) pushed ∙ map-append kept_name kept ((v, at) ∷ []) ∙
    (λ i. so_far i ++ same i ∷ []) ∙ sym (map-append passed_name path (x ∷ []))

-- where a loop over names stands
pub record IsOnWay (ms : List ModuleTerm) (m : ℕ) (of : TypeTerm) (kept : List (ℕ × Bor TypeText)) (steps v : ℕ)
    (at : TypeTerm) : Type 0 where
  pub path : List Passed
  pub are_kept : AreKept kept path
  pub leads : LeadsBy ms m of path v at
  pub seen : List ℕ
  pub counted : length seen ≡ steps
  pub walks : Walks ms m of seen v at

pub way_begins : (ms : List ModuleTerm) (m : ℕ) (of : TypeTerm) (kept : List (ℕ × Bor TypeText)) → kept ≡ [] →
    IsOnWay ms m of kept 0 m of
way_begins ms m of kept none = record {
  path = [];
  are_kept = ap (map kept_name) none;
  leads = arrived;
  seen = [];
  counted = refl;
  walks = start;
}

pub way_goes_on : (ms : List ModuleTerm) (m : ℕ) (of : TypeTerm) (kept after : List (ℕ × Bor TypeText))
    (steps v w : ℕ) (at : Bor TypeText) (named : TypeTerm) → IsOnWay ms m of kept steps v (type_term at.now) →
    NamesNext ms v (type_term at.now) w named → after ≡ kept ++ (v, at) ∷ [] → IsOnWay ms m of after (steps + 1) w named
way_goes_on ms m of kept after steps v w at named way next pushed = record {
  path = way.path ++ name_passed next ∷ [];
  are_kept = kept_more kept after way.path v at (name_passed next) way.are_kept (ap (λ t. (v, t)) next.is) pushed;
  leads = leads_more way.leads next;
  seen = next.number ∷ way.seen;
  counted = omega (arith, way.counted);
  walks = step way.walks next;
}

-- the loop doesn't come to its bound
pub way_ends : (ms : List ModuleTerm) (m : ℕ) (of : TypeTerm) (kept : List (ℕ × Bor TypeText)) (steps v : ℕ)
    (at : TypeTerm) → AreFaultless ms → IsOnWay ms m of kept steps v at → assignment_count ms < steps → ⊥
way_ends ms m of kept steps v at sound way past =
    let short = way_is_short way.seen sound way.walks in omega (arith, short, way.counted, past)

pub way_to_standard : (ms : List ModuleTerm) (m : ℕ) (of : TypeTerm) (kept : List (ℕ × Bor TypeText)) (steps v : ℕ)
    (at : Bor TypeText) (standard : StandardType) (followed : Followed) → IsOnWay ms m of kept steps v (type_term
    at.now) →
    NamesStandard ms v (type_term at.now) standard → followed.passed.items ≡ kept ++ (v, at) ∷ [] →
    LeadsToStandard ms m of followed standard
way_to_standard ms m of kept steps v at standard followed way named pushed = record {
  path = way.path;
  last = last;
  kept = kept_more kept followed.passed.items way.path v at last way.are_kept (ap (λ t. (v, t)) named.is) pushed;
  leads = subst (λ t. LeadsBy ms m of way.path v t) named.is way.leads;
  means = named.means;
}
  where
    last : Passed
    last = record { home = v; module_name = named.module_name; name = named.name; limits = named.limits }

pub way_to_type : (ms : List ModuleTerm) (m : ℕ) (of : TypeTerm) (steps : ℕ) (followed : Followed) →
    IsOnWay ms m of followed.passed.items steps followed.home (type_term followed.of.now) →
    NamesNothing ms followed.home (type_term followed.of.now) → (document : ℕ) → AreFaultless ms →
    Stands ms document m of → LeadsToType ms m of followed
way_to_type ms m of steps followed way none document sound stands = record {
  path = way.path;
  kept = way.are_kept;
  leads = way.leads;
  no_name = let end = end_stands document stands way.leads in names_no_type end.0 sound end.1 none;
}
