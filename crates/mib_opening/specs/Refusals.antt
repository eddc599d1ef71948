-- What a refusal of an opening says: of want of memory nothing.
use Rattle.std.specs.Prelude.{◌≡◌, pos, Err}
use Rattle.term_model.specs.Opening.{Opened}
use Rattle.mib_opening.specs.declared.refusal.OpeningRefusal.{OpeningRefusal}
use Rattle.mib_opening.specs.declared.refusal.OpeningRefusal.TheVariants.{BadInstance, Memory}

-- the instance and the error are those that the definition gives
abbrev pub HasRefusal : Opened → OpeningRefusal → Type 0
HasRefusal opened (BadInstance index error) = opened ≡ Err (record { index = index; error = pos error })
HasRefusal opened Memory = Unit {0}
