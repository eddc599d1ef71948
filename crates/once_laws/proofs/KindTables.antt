-- KindTables: the templates of some kinds, table behind table, are pairs of different templates of the documents.
use Rattle.std.specs.Prelude.{◌≢◌, ◌⊎◌, ◌++◌, ◌∷◌, [], List, AllPairs, Contains}
use Rattle.std.proofs.Common.{◌∙◌, ap, arith, inl, inr, sym}
use Rattle.std.proofs.lemmas.List.Elements.{Contains-append_cases}
use Rattle.gdmo_names.specs.PartTerms.{Placed, kind_of}
use Rattle.gdmo_names.specs.TemplateTerms.{TemplateKind}
use Rattle.gdmo_names.specs.TemplateTerms.TemplateKind.{ActionKind, AttributeKind, BindingKind, ClassKind, GroupKind}
use Rattle.gdmo_names.specs.TemplateTerms.TemplateKind.{NotificationKind}
use Rattle.gdmo_linking.specs.LinkedTables.{of_kind}
use Rattle.registered_laws.proofs.ApartLaws.{pairs_of_kind}
use Rattle.registered_laws.proofs.TableLaws.{StandsIn, stands_at}
use Rattle.once_laws.proofs.PairLaws.{either_pair, pairs_append, place_at}

-- the tables of some kinds behind these templates
abbrev tables_behind : List Placed → List Placed → List TemplateKind → List Placed
tables_behind xs so_far [] = so_far
tables_behind xs so_far (kind ∷ kinds) = tables_behind xs (so_far ++ of_kind kind xs) kinds

abbrev IsNoneOf : TemplateKind → List TemplateKind → Type 0
IsNoneOf kind [] = Unit {0}
IsNoneOf kind (other ∷ others) = (kind ≢ other) × IsNoneOf kind others

abbrev AreAllOther : List TemplateKind → Type 0
AreAllOther [] = Unit {0}
AreAllOther (kind ∷ kinds) = IsNoneOf kind kinds × AreAllOther kinds

-- templates of a list, none of them of the kind
record Lacks (xs so_far : List Placed) (kind : TemplateKind) : Type 0 where
  stands : (x : Placed) → Contains so_far x → Contains xs x
  other : (x : Placed) → Contains so_far x → kind_of x.template ≢ kind

abbrev LacksAll : List Placed → List Placed → List TemplateKind → Type 0
LacksAll xs so_far [] = Unit {0}
LacksAll xs so_far (kind ∷ kinds) = Lacks xs so_far kind × LacksAll xs so_far kinds

none_lacks : (xs : List Placed) (kinds : List TemplateKind) → LacksAll xs [] kinds
none_lacks xs [] = tt
none_lacks xs (kind ∷ kinds) = (
  record {
    stands = λ x has. let w = has.1 in absurd (omega (arith, w));
    other = λ x has. let w = has.1 in absurd (omega (arith, w));
  },
  none_lacks xs kinds,
)

module _ (R : Placed → Placed → Type 0) (turned : (x y : Placed) → R x y → R y x) (xs : List Placed)
    (all : AllPairs R xs) where
  in_table : (kind : TemplateKind) (x : Placed) → Contains (of_kind kind xs) x → StandsIn kind xs x
  in_table kind x has = stands_at kind xs has.0 x (place_at (of_kind kind xs) x has)

  still_lacks : (so_far : List Placed) (kind other : TemplateKind) → kind ≢ other → Lacks xs so_far other →
      Lacks xs (so_far ++ of_kind kind xs) other
  still_lacks so_far kind other apart lacks = record {
    stands = λ x has. stands x (Contains-append_cases so_far (of_kind kind xs) x has);
    other = λ x has. of_other x (Contains-append_cases so_far (of_kind kind xs) x has);
  }
    where
      stands : (x : Placed) → Contains so_far x ⊎ Contains (of_kind kind xs) x → Contains xs x
      stands x (inl here) = lacks.stands x here
      stands x (inr there) = (in_table kind x there).stands

      of_other : (x : Placed) → Contains so_far x ⊎ Contains (of_kind kind xs) x → kind_of x.template ≢ other
      of_other x (inl here) same = lacks.other x here same
      of_other x (inr there) same = apart (sym (in_table kind x there).of_kind ∙ same)

  still_lack : (so_far : List Placed) (kind : TemplateKind) (kinds : List TemplateKind) → IsNoneOf kind kinds →
      LacksAll xs so_far kinds → LacksAll xs (so_far ++ of_kind kind xs) kinds
  still_lack so_far kind [] apart lack = tt
  still_lack so_far kind (other ∷ others) apart lack =
      (still_lacks so_far kind other apart.0 lack.0, still_lack so_far kind others apart.1 lack.1)

  one_more : (so_far : List Placed) (kind : TemplateKind) → AllPairs R so_far → Lacks xs so_far kind →
      AllPairs R (so_far ++ of_kind kind xs)
  one_more so_far kind before lacks =
      pairs_append R so_far (of_kind kind xs) before (pairs_of_kind R kind xs all)
      (λ x y here there. let its = in_table kind y there in either_pair R xs turned all x y (lacks.stands x here)
      its.stands (λ same. lacks.other x here (ap (λ (z : Placed). kind_of z.template) same ∙ its.of_kind)))

  all_behind : (so_far : List Placed) (kinds : List TemplateKind) → AllPairs R so_far → LacksAll xs so_far kinds →
      AreAllOther kinds → AllPairs R (tables_behind xs so_far kinds)
  all_behind so_far [] before lack apart = before
  all_behind so_far (kind ∷ kinds) before lack apart =
      all_behind (so_far ++ of_kind kind xs) kinds (one_more so_far kind before lack.0)
      (still_lack so_far kind kinds apart.0 lack.1) apart.1

-- ---- the kinds of which there are records, in the order of these

abbrev record_kinds : List TemplateKind
record_kinds = ClassKind ∷ AttributeKind ∷ GroupKind ∷ BindingKind ∷ ActionKind ∷ NotificationKind ∷ []

abbrev pub record_tables : List Placed → List Placed
record_tables xs = tables_behind xs [] record_kinds

all_other : AreAllOther record_kinds
all_other = (
  (λ e. absurd (cc), (λ e. absurd (cc), (λ e. absurd (cc), (λ e. absurd (cc), (λ e. absurd (cc), tt))))),
  (
    (λ e. absurd (cc), (λ e. absurd (cc), (λ e. absurd (cc), (λ e. absurd (cc), tt)))),
    (
      (λ e. absurd (cc), (λ e. absurd (cc), (λ e. absurd (cc), tt))),
      ((λ e. absurd (cc), (λ e. absurd (cc), tt)), ((λ e. absurd (cc), tt), (tt, tt))),
    ),
  ),
)

pub tables_apart : (R : Placed → Placed → Type 0) → ((x y : Placed) → R x y → R y x) → (xs : List Placed) →
    AllPairs R xs → AllPairs R (record_tables xs)
tables_apart R turned xs all = all_behind R turned xs all [] record_kinds
    (λ i j d less within. absurd (omega (arith, within))) (none_lacks xs record_kinds) all_other
