-- A commit keeps what holds of the operations that are not ended.
use Rattle.std.proofs.Common.{◌≡◌, ◌≢◌, ◌<◌, ℕ, List, Option, None, Some, length, take}
use Rattle.std.proofs.Common.{refl, sym, ap, ◌∙◌, subst, arith}
use Rattle.std.specs.Prelude.{Contains}
use Rattle.std.proofs.lemmas.List.{take_all}
use Rattle.term_model.specs.declared.objects.NamedObject.{NamedObject}
use Rattle.term_model.specs.declared.schema.Set.{Set}
use Rattle.operation_model.specs.WholeOperation.{Outcome}
use Rattle.lock_model.specs.declared.path.Wanted.{Wanted}
use Rattle.lock_model.specs.LockPath.{Path, way_to}
use Rattle.lock_model.specs.Units.{taken_on}
use Rattle.lock_model.specs.ReadSet.{read_set}
use Rattle.lock_model.specs.OperationLaws.{AreShort, Framed, KeepsToUnit}
use Rattle.lock_model.specs.PathLaws.{GoTogether}
use Rattle.lock_model.specs.Invariant.{AreSound, CommitIsPlanned, CommitKeepsSound, IsGranted, Row, held_of, path_of}
use Rattle.lock_model.proofs.Disjoint.{read_set_stays}
use Rattle.lock_model.proofs.Paths.{path_stays}
use Rattle.lock_model.proofs.Plain.{taken_plain}
use Rattle.lock_model.proofs.Waiting.{waiting_stays}
use Rattle.lock_model.proofs.Plans.{plan_stays}

module _ (schema : Set) (past : ℕ → List NamedObject) (now : List NamedObject) (rows : List Row) (row : Row) (place : ℕ)
    (does : List NamedObject → Outcome) (sound : AreSound schema past now rows) (at : Contains rows row)
    (is : row.granted ≡ Some place) (keeps : KeepsToUnit schema row.whole does) where
  abbrev one : Wanted
  one = taken_on schema now row.whole

  framed : Framed one now (does now).objects
  framed = keeps.frame now sound.rises sound.short

  -- it has its whole path
  mine : held_of schema now row ≡ path_of schema now row
  mine =
      let whole = (sound.granted row place at is).whole in
      take_all row.held (path_of schema now row) (omega arith)

  beside : (other : Row) → Contains rows other → other.op ≢ row.op
      → GoTogether (way_to one) (held_of schema now other)
  beside other there differs =
      subst (λ (p : Path). GoTogether p (held_of schema now other)) mine
      (sound.together row other at there (λ e. differs (sym e)))

  -- another one that is granted
  beside_whole : (other : Row) (p : ℕ) → Contains rows other → other.op ≢ row.op → other.granted ≡ Some p
      → GoTogether (way_to one) (path_of schema now other)
  beside_whole other p there differs grant =
      let whole = (sound.granted other p there grant).whole in
      subst (λ (q : Path). GoTogether (way_to one) q)
      (take_all other.held (path_of schema now other) (omega arith)) (beside other there differs)

  read_set_left : (other : Row) (p : ℕ) → Contains rows other → other.op ≢ row.op → other.granted ≡ Some p
      → read_set schema (taken_on schema now other.whole).unit (does now).objects
      ≡ read_set schema (taken_on schema now other.whole).unit now
  read_set_left other p there differs grant =
      read_set_stays schema one (taken_on schema now other.whole) now (does now).objects
      (beside_whole other p there differs grant) (taken_plain schema now row.whole keeps.plain) sound.rises framed

  path_left : (other : Row) (p : ℕ) → Contains rows other → other.op ≢ row.op → other.granted ≡ Some p
      → taken_on schema (does now).objects other.whole ≡ taken_on schema now other.whole
  path_left other p there differs grant =
      path_stays schema now (does now).objects other.whole sound.rises framed.rises
      (sym (read_set_left other p there differs grant))

  granted_left : (other : Row) (p : ℕ) → Contains rows other → other.op ≢ row.op → other.granted ≡ Some p
      → IsGranted schema past (does now).objects other p
  granted_left other p there differs grant =
      let was = sound.granted other p there grant in
      let path = path_left other p there differs grant in
      let left = read_set_left other p there differs grant in
      record {
        whole = was.whole ∙ ap (λ (w : Wanted). length (way_to w)) (sym path);
        same = subst (λ (w : Wanted). read_set schema w.unit (past p) ≡ read_set schema w.unit (does now).objects)
            (sym path)
            (was.same ∙ sym left);
      }

  waiting_left : (other : Row) → Contains rows other → other.op ≢ row.op → other.granted ≡ None
      → (held_of schema (does now).objects other ≡ held_of schema now other)
      × (other.held < length (path_of schema (does now).objects other))
  waiting_left other there differs waits =
      waiting_stays schema one other.whole now (does now).objects other.held
      (beside other there differs) framed (sound.waiting other there waits)

  held_left : (other : Row) → Contains rows other → other.op ≢ row.op
      → held_of schema (does now).objects other ≡ held_of schema now other
  held_left other there differs = by other.granted refl
    where
      by : (o : Option ℕ) → other.granted ≡ o → held_of schema (does now).objects other ≡ held_of schema now other
      by None e = (waiting_left other there differs e).0
      by (Some p) e = ap (λ (w : Wanted). take other.held (way_to w)) (path_left other p there differs e)

  pub kept : (left : List Row) → AreShort (does now).objects
      → ((other : Row) → Contains left other → Contains rows other × (other.op ≢ row.op))
      → AreSound schema past (does now).objects left
  kept left short from = record {
    rises = framed.rises;
    short = short;
    together = λ a b in_a in_b differs.
        let of_a = from a in_a in
        let of_b = from b in_b in
        subst (λ (p : Path). GoTogether p (held_of schema (does now).objects b)) (sym (held_left a of_a.0 of_a.1))
        (subst (λ (q : Path). GoTogether (held_of schema now a) q) (sym (held_left b of_b.0 of_b.1))
        (sound.together a b of_a.0 of_b.0 differs));
    waiting = λ other there waits.
        let of = from other there in (waiting_left other of.0 of.1 waits).1;
    granted = λ other p there grant.
        let of = from other there in granted_left other p of.0 of.1 grant;
  }

pub commit_keeps_sound : CommitKeepsSound
commit_keeps_sound = λ schema past now rows left row place does sound at is keeps short from.
    kept schema past now rows row place does sound at is keeps left short from

pub commit_is_planned : CommitIsPlanned
commit_is_planned = λ schema past now rows row place does changes sound at is keeps rises short made.
    let same = (sound.granted row place at is).same in
    let then_ = path_stays schema now (past place) row.whole sound.rises rises (sym same) in
    let read_set_then : read_set schema (taken_on schema (past place) row.whole).unit (past place)
    ≡ read_set schema (taken_on schema (past place) row.whole).unit now =
    subst (λ (w : Wanted). read_set schema w.unit (past place) ≡ read_set schema w.unit now) (sym then_) same in
    let told = keeps.told (past place) now rises sound.rises short sound.short read_set_then in (
      plan_stays schema (past place) now row.whole does changes keeps rises sound.rises short sound.short read_set_then
          made,
      sym told.replies,
      sym told.sources,
    )
