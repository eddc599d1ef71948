-- The records of a log stand behind it, among the names that its own one begins.
use Rattle.std.proofs.Common.{◌≡◌, ◌⊎◌, ℕ, Bool, true, false, List, [], ◌∷◌, ◌++◌, Option, None, Some, refl, sym}
use Rattle.std.proofs.Common.{ap, ◌∙◌}
use Rattle.std.proofs.Common.{⊎_elim}
use Rattle.std.specs.Prelude.{MatchOption, filter}
use Rattle.std.specs.Ordering.{is_lt, ordering_reverse, ordering_then}
use Rattle.std.specs.declared.cmp.Ordering.{Ordering}
use Rattle.std.specs.declared.cmp.Ordering.TheVariants.{Less, Equal, Greater}
use Rattle.std.proofs.lemmas.Bool.{and_parts, false≢true}
use Rattle.std.proofs.lemmas.Option.{none-some}
use Rattle.term_model.specs.declared.name.Rdn.{Rdn}
use Rattle.term_model.specs.declared.objects.NamedObject.{NamedObject}
use Rattle.term_model.specs.declared.schema.Set.{Set}
use Rattle.std.specs.Prelude.{codes}
use Rattle.term_model.specs.Comparing.{is_same_name}
use Rattle.term_model.specs.Creating.{last_of, superior_of}
use Rattle.term_model.specs.Following.{entry_after}
use Rattle.term_model.specs.LogRecords.{is_of_label, is_record_name, is_record_of, is_record_part, records_of}
use Rattle.term_model.specs.NameLaws.{name_total, rdn_total}
use Rattle.term_model.specs.NameOrder.{name_cmp, rdn_cmp}
use Rattle.term_model.specs.NamedObjects.{IsByName}
use Rattle.term_model.specs.Scope.{level_below}
use Rattle.term_model.specs.Superiors.{BeginsWith}
use Rattle.term_model.proofs.MapLaws.{name_Decides}
use Rattle.scope_select.proofs.PrefixLaws.{is_level, level_is, outside_stays}
use Rattle.mib_opening.specs.Walks.{IsEnd, behind, is_behind}
use Rattle.mib_opening.proofs.WalkLaws.{found_behind, kept, left_out, next_behind, none_behind, one_first}

-- ---- a record's name is the log's and one part

whole_name : (first : Rdn) (rest : List Rdn) → (first ∷ rest) ≡ superior_of (first ∷ rest) ++ last_of first rest ∷ []
whole_name first [] = refl
whole_name first (second ∷ rest) = ap (λ parts. first ∷ parts) (whole_name second rest)

pub record_parts : (schema : Set) (log name : List Rdn) → is_record_name schema log name ≡ true
    → (last : Rdn) × (name ≡ log ++ last ∷ [])
record_parts schema log [] h = absurd (false≢true h)
record_parts schema log (first ∷ rest) h =
    let parts =
    and_parts (is_same_name (superior_of (first ∷ rest)) log) (is_record_part schema (last_of first rest)) h in (
      last_of first rest,
      whole_name first rest
          ∙ ap (λ front. front ++ last_of first rest ∷ []) ((name_Decides (superior_of (first ∷ rest)) log).0 parts.0),
    )

pub name_of_record : (schema : Set) (log : List Rdn) (entry : NamedObject) → is_record_of schema log entry ≡ true
    → (last : Rdn) × (entry.name ≡ log ++ last ∷ [])
name_of_record schema log entry h =
    record_parts schema log entry.name
    (and_parts (is_record_name schema log entry.name)
    (is_of_label schema (codes "eventLogRecord") entry.object.class) h).0

-- ---- it stands behind the log

reversed : (o : Ordering) → o ≡ ordering_reverse o → o ≡ Equal
reversed Less h = absurd cc
reversed Equal h = refl
reversed Greater h = absurd cc

rdn_itself : (part : Rdn) → rdn_cmp part part ≡ Equal
rdn_itself part = reversed (rdn_cmp part part) (rdn_total.antisymm part part)

pub below_behind : (log : List Rdn) (part : Rdn) (rest : List Rdn) → name_cmp log (log ++ part ∷ rest) ≡ Less
below_behind [] part rest = refl
below_behind (first ∷ log) part rest =
    ap (λ o. ordering_then o (name_cmp log (log ++ part ∷ rest))) (rdn_itself first) ∙ below_behind log part rest

pub record_behind : (schema : Set) (log : List Rdn) (entry : NamedObject) → is_record_of schema log entry ≡ true
    → name_cmp log entry.name ≡ Less
record_behind schema log entry h =
    let parts = name_of_record schema log entry h in
    ap (name_cmp log) parts.1 ∙ below_behind log parts.0 []

-- what isn't behind the log is no record
pub not_behind : (schema : Set) (log : List Rdn) (entry : NamedObject) → is_behind log entry ≡ false
    → is_record_of schema log entry ≡ false
not_behind schema log entry e = by (is_record_of schema log entry) refl
  where
    by : (b : Bool) → is_record_of schema log entry ≡ b → is_record_of schema log entry ≡ false
    by true h = absurd (false≢true (sym e ∙ ap is_lt (record_behind schema log entry h)))
    by false h = h

-- nor is what the log's name doesn't begin
not_within : (schema : Set) (log : List Rdn) (entry : NamedObject) → level_below log entry.name ≡ None
    → is_record_of schema log entry ≡ false
not_within schema log entry e = by (is_record_of schema log entry) refl
  where
    by : (b : Bool) → is_record_of schema log entry ≡ b → is_record_of schema log entry ≡ false
    by true h =
        let parts = name_of_record schema log entry h in
        absurd (none-some 1 (sym e ∙ ap (level_below log) parts.1 ∙ is_level log (parts.0 ∷ [])))
    by false h = h

pub outside : (base name : List Rdn) → ¬ (BeginsWith name base) → level_below base name ≡ None
outside base name h = by (level_below base name) refl
  where
    by : (o : Option ℕ) → level_below base name ≡ o → level_below base name ≡ None
    by None e = e
    by (Some level) e =
        let parts = level_is base name level e in
        absurd (h (parts.0, parts.1))

-- ---- the records are those behind the log

pub all_behind_log : (schema : Set) (log : List Rdn) (objects : List NamedObject)
    → records_of schema log objects ≡ records_of schema log (behind log objects)
all_behind_log schema log [] = refl
all_behind_log schema log (x ∷ xs) = by (all_behind_log schema log xs) (is_behind log x) refl
  where
    test : NamedObject → Bool
    test = is_record_of schema log

    by : records_of schema log xs ≡ records_of schema log (behind log xs) → (b : Bool) → is_behind log x ≡ b
        → records_of schema log (x ∷ xs) ≡ records_of schema log (behind log (x ∷ xs))
    by again true e =
        one_first test x xs ∙ ap (λ os. filter test (x ∷ []) ++ os) again
        ∙ sym (one_first test x (behind log xs))
        ∙ ap (filter test) (sym (kept (is_behind log) x xs e))
    by again false e =
        left_out test x xs (not_behind schema log x e) ∙ again
        ∙ ap (filter test) (sym (left_out (is_behind log) x xs e))

-- behind a name that the log's doesn't begin none is left
none_further : (schema : Set) (log : List Rdn) (next : List Rdn) (objects : List NamedObject)
    → name_cmp log next ≡ Less → level_below log next ≡ None → records_of schema log (behind next objects) ≡ []
none_further schema log next [] low none = refl
none_further schema log next (x ∷ xs) low none =
    by (none_further schema log next xs low none) (is_behind next x) refl
  where
    test : NamedObject → Bool
    test = is_record_of schema log

    less : (o : Ordering) → is_lt o ≡ true → o ≡ Less
    less Less e = refl
    less Equal e = absurd (false≢true e)
    less Greater e = absurd (false≢true e)

    by : records_of schema log (behind next xs) ≡ [] → (b : Bool) → is_behind next x ≡ b
        → records_of schema log (behind next (x ∷ xs)) ≡ []
    by again true e =
        ap (filter test) (kept (is_behind next) x xs e)
        ∙ left_out test x (behind next xs)
        (not_within schema log x
        (outside_stays log next x.name low none (less (name_cmp next x.name) e)))
        ∙ again
    by again false e = ap (filter test) (left_out (is_behind next) x xs e) ∙ again

-- the name is the log's or stands behind it
abbrev pub IsFrom : List Rdn → List Rdn → Type 0
IsFrom log name = (name ≡ log) ⊎ (name_cmp log name ≡ Less)

pub from_next : (log name next : List Rdn) → IsFrom log name → name_cmp name next ≡ Less → name_cmp log next ≡ Less
from_next log name next from low =
    ⊎_elim
    (λ (same : name ≡ log). ap (λ (n : List Rdn). name_cmp n next) (sym same) ∙ low)
    (λ (above : name_cmp log name ≡ Less). name_total.trans log name next above low) from

-- at the end no record is left
pub none_left : (schema : Set) (log name : List Rdn) (objects : List NamedObject) → IsByName objects
    → IsFrom log name → IsEnd log name objects → records_of schema log (behind name objects) ≡ []
none_left schema log name objects sorted from ends = by (entry_after objects name) refl ends
  where
    by : (o : Option NamedObject) → entry_after objects name ≡ o
        → MatchOption o (Unit {0}) (λ (entry : NamedObject). ¬ (BeginsWith entry.name log))
        → records_of schema log (behind name objects) ≡ []
    by None e h = ap (records_of schema log) (none_behind name objects e)
    by (Some next) e h =
        let none = outside log next.name h in
        let low = from_next log name next.name from (found_behind name next objects e) in
        ap (records_of schema log) (next_behind name next objects sorted e)
        ∙ left_out (is_record_of schema log) next (behind next.name objects) (not_within schema log next none)
        ∙ none_further schema log next.name objects low none

-- one step of the way
pub records_next : (schema : Set) (log name : List Rdn) (next : NamedObject) (objects : List NamedObject)
    → IsByName objects → entry_after objects name ≡ Some next
    → records_of schema log (behind name objects)
    ≡ records_of schema log (next ∷ []) ++ records_of schema log (behind next.name objects)
records_next schema log name next objects sorted e =
    ap (records_of schema log) (next_behind name next objects sorted e)
    ∙ one_first (is_record_of schema log) next (behind next.name objects)
