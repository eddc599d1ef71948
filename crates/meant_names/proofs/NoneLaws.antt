-- NoneLaws: what isn't without any: one of it gives another, and to show it each case may be taken apart.
use Rattle.denoted_types.specs.DenotedTypes.{NotNone}

-- one that is told
pub one_is : {X : Type 0} (Is : X → Type 0) (x : X) → Is x → NotNone Is
one_is Is x is none_is = none_is x is

-- from each of the first kind one of the second is found, and from each, that there is one
pub none_by : {X Y : Type 0} (Is : X → Type 0) (Its : Y → Type 0) → NotNone Is → ((x : X) → Is x → NotNone Its) →
    NotNone Its
none_by Is Its there onward none_is = there (λ x is. onward x is none_is)

pub none_map : {X Y : Type 0} (Is : X → Type 0) (Its : Y → Type 0) (f : X → Y) → NotNone Is →
    ((x : X) → Is x → Its (f x)) → NotNone Its
none_map Is Its f there onward none_is = there (λ x is. none_is (f x) (onward x is))

-- something is so, or it isn't
pub either_case : {X : Type 0} (Is : X → Type 0) (Holds : Type 0) → (Holds → NotNone Is) → (¬ Holds → NotNone Is) →
    NotNone Is
either_case Is Holds if_so if_not none_is = if_not (λ holds. if_so holds none_is) none_is
