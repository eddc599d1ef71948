-- The requests that are read of the arguments of m-EventReport are those that the trees denote: X.711, section 7.4.
use Rattle.std.proofs.Common.{◌≡◌, ℕ, List, Bool, true, false, Option, None, Some, refl, sym, ap, subst, ◌∙◌}
use Rattle.std.proofs.lemmas.Option.{none-some, same_Some}
use Rattle.std.specs.Prelude.{option_and_then, option_map, if◌then◌else◌}
use Rattle.term_values.specs.CmipTypes.{implicit}
use Rattle.term_values.specs.Decoding.{value_in}
use Rattle.term_values.specs.Denotes.{Denotes}
use Rattle.term_values.specs.FilterTrees.{is_context}
use Rattle.term_values.specs.LeafReading.{octets_in}
use Rattle.term_values.specs.Syntaxes.TypeSyntax.{GeneralizedTime}
use Rattle.term_values.specs.Tag.{context, universal}
use Rattle.term_values.specs.Times.{is_time}
use Rattle.term_values.specs.Tree.{TreeValue, TreeValues}
use Rattle.term_values.specs.Tree.TreeValue.{Constructed}
use Rattle.term_values.specs.Tree.TreeValues.{Nothing, Then}
use Rattle.term_values.specs.TreeTags.{tag_of}
use Rattle.term_values.specs.Typed.TypedValue.{Time}
use Rattle.typed_laws.proofs.Choosing.{if_some, map_some, then_some}
use Rattle.typed_laws.proofs.ReadingStatements.{reading_denotes_holds}
use Rattle.typed_laws.specs.TreeOctets.{HasOctets, HaveOctets}
use Rattle.filter_laws.proofs.GivenTold.{given_is_denoted}
use Rattle.filter_laws.proofs.IdTold.{id_is_denoted}
use Rattle.term_model.specs.declared.filter_item.Given.{Given}
use Rattle.term_model.specs.declared.request.IdRef.{IdRef}
use Rattle.term_model.specs.declared.request.Instance.{Instance}
use Rattle.term_model.specs.declared.request.Request.{Request}
use Rattle.term_model.specs.declared.request.Request.TheVariants as requests
use Rattle.term_model.specs.declared.schema.Set.{Set}
use Rattle.term_model.specs.ArgumentRows.{at_end, at_front, held_under}
use Rattle.term_model.specs.Assertions.{IsIdRef, given_of, id_in}
use Rattle.term_model.specs.InstanceNames.{instance_in}
use Rattle.term_model.specs.Parts.{inside_under, one_under}
use Rattle.term_model.specs.RequestHeads.{object_of}
use Rattle.term_model.specs.ReportReading.{ReportTrees, event_of, event_with, notification_syntax, report_behind}
use Rattle.term_model.specs.ReportReading.{report_in, report_of, report_trees, report_with, time_in, time_of}
use Rattle.request_laws.specs.ObjectDenoting.{DenotesReport, IsInfo, IsTime, NotificationsAreClear, ReportIsDenoted}
use Rattle.request_laws.specs.RequestDenoting.{IsInstance, before}
use Rattle.request_laws.proofs.HeadTold.{front_back, front_octets, inside_told, instance_told, one_told}
use Rattle.request_laws.proofs.ScopedTold.{last_told}

time_read : (x : TreeValue) (octets : List ℕ) → is_context 5 (tag_of x) ≡ true → octets_in x ≡ Some octets
    → is_time octets ≡ true → value_in (implicit 5 GeneralizedTime) x ≡ Some (Time octets)
time_read x octets here found valid = rw (here, found, valid) refl

time_told : (o : Option TreeValue) (time : Option (List ℕ)) → ((x : TreeValue) → o ≡ Some x → HasOctets x)
    → ((x : TreeValue) → o ≡ Some x → is_context 5 (tag_of x) ≡ true) → time_of o ≡ Some time → IsTime o time
time_told None time octets tags e = sym (same_Some None time e)
time_told (Some x) time octets tags e =
    let m = map_some Some (time_in x) time e in
    let f = then_some (λ xs. if is_time xs then Some xs else None) (octets_in x) m.0 m.1 in
    let t = if_some (is_time f.0) (Some f.0) m.0 f.2 in
    let read = time_read x f.0 (tags x refl) f.1 t.0 in (
      m.0,
      subst (λ xs. Denotes (implicit 5 GeneralizedTime) x (Time xs)) (same_Some f.0 m.0 t.1)
          (reading_denotes_holds (implicit 5 GeneralizedTime) x (Time f.0) (octets x refl) read),
      sym m.2,
    )

abbrev front_of : TreeValue → TreeValues → Bool → Option TreeValue × TreeValues
front_of y ys b = if b then (Some y, ys) else (None, Then y ys)

front_tags : (number : ℕ) (xs : TreeValues) (x : TreeValue) → (at_front (is_context number) xs).0 ≡ Some x
    → is_context number (tag_of x) ≡ true
front_tags number Nothing x e = absurd (none-some _ e)
front_tags number (Then y ys) x e =
    go (is_context number (tag_of y)) refl e
  where
    go : (b : Bool) → is_context number (tag_of y) ≡ b
        → (front_of y ys b).0 ≡ Some x → is_context number (tag_of x) ≡ true
    go true is e = subst (λ t. is_context number (tag_of t) ≡ true) (same_Some y x e) is
    go false is e = absurd (none-some _ e)

info_told : (set : Set) (id : IdRef) (o value : Option TreeValue) → NotificationsAreClear set
    → ((x : TreeValue) → o ≡ Some x → HasOctets x) → held_under 8 o ≡ Some value
    → IsInfo (notification_syntax set.notifications id) id o
    (option_map (given_of (notification_syntax set.notifications id) id) value)
info_told set id None value clear octets e =
    subst (λ v. IsInfo (notification_syntax set.notifications id) id None
    (option_map (given_of (notification_syntax set.notifications id) id) v)) (same_Some None value e) refl
info_told set id (Some x) value clear octets e =
    let m = map_some Some (one_under (context 8) x) value e in
    let is = one_told (context 8) x m.0 m.1 in
    subst (λ v. IsInfo (notification_syntax set.notifications id) id (Some x)
    (option_map (given_of (notification_syntax set.notifications id) id) v)) m.2 (
      m.0,
      given_of (notification_syntax set.notifications id) id m.0,
      is,
      given_is_denoted (notification_syntax set.notifications id) id m.0 (clear id)
          (subst HasOctets is (octets x refl)).0,
      refl,
    )

record Behind (time : Option TreeValue) (xs : TreeValues) (trees : ReportTrees) : Type 0 where
  is : xs ≡ Then trees.kind (before trees.info Nothing)
  same : trees.time ≡ time
  kind : HasOctets trees.kind
  info : (x : TreeValue) → trees.info ≡ Some x → HasOctets x

behind_told : (time : Option TreeValue) (xs : TreeValues) (trees : ReportTrees) → HaveOctets xs
    → report_behind time xs ≡ Some trees → Behind time xs trees
behind_told time Nothing trees octets e = absurd (none-some _ e)
behind_told time (Then kind rest) trees octets e =
    let m = map_some (λ info. record { time = time; kind = kind; info = info }) (at_end 8 rest) trees e in
    let last = last_told 8 rest m.0 octets.1 m.1 in
    subst (Behind time (Then kind rest)) m.2
    (record { is = ap (Then kind) last.is; same = refl; kind = octets.0; info = last.octets })

inside_is : (set : Set) (confirmed : Bool) (xs : TreeValues) (request : Request) → NotificationsAreClear set
    → HaveOctets xs → report_in set confirmed xs ≡ Some request
    → DenotesReport set confirmed (Constructed (universal 16) xs) request
inside_is set confirmed Nothing request clear octets e = absurd (none-some _ e)
inside_is set confirmed (Then class Nothing) request clear octets e = absurd (none-some _ e)
inside_is set confirmed (Then class (Then base rest)) request clear octets e =
    let time = at_front (is_context 5) rest in
    let held = front_octets (is_context 5) rest octets.1.1 in
    let t = then_some (report_of set confirmed class base) (report_trees rest) request e in
    let b = behind_told time.0 time.1 t.0 held.1 t.1 in
    let v = then_some (λ (event : IdRef × Option Given).
    option_and_then (λ (object : IdRef × Instance). report_with confirmed object event t.0.time)
    (object_of set class base)) (event_of set.notifications t.0.kind t.0.info) request t.2 in
    let o = then_some (λ (object : IdRef × Instance). report_with confirmed object v.0 t.0.time)
    (object_of set class base) request v.2 in
    let r = map_some (λ octets. requests.Report o.0.0 o.0.1 v.0.0 octets v.0.1 confirmed) (time_of t.0.time) request
    o.2 in
    let i = then_some (λ id. option_map (λ instance. (id, instance)) (instance_in set base)) (id_in 0 1 class) o.0
    o.1 in
    let n = map_some (λ instance. (i.0, instance)) (instance_in set base) o.0 i.2 in
    let h = then_some (λ value. option_map (λ named. event_with set.notifications named value) (id_in 6 7 t.0.kind))
    (held_under 8 t.0.info) v.0 v.1 in
    let k = map_some (λ named. event_with set.notifications named h.0) (id_in 6 7 t.0.kind) v.0 h.2 in (
      class,
      base,
      time.0,
      t.0.kind,
      t.0.info,
      o.0.0,
      o.0.1,
      v.0.0,
      r.0,
      v.0.1,
      ap (λ ys. Constructed (universal 16) (Then class (Then base ys)))
          (front_back (is_context 5) rest ∙ ap (before time.0) b.is),
      subst (λ (p : IdRef × Instance). IsIdRef 0 1 class p.0) n.2 (id_is_denoted 0 1 class i.0 octets.0 i.1),
      subst (λ (p : IdRef × Instance). IsInstance set base p.1) n.2 (instance_told set base n.0 octets.1.0 n.1),
      time_told time.0 r.0 held.0 (front_tags 5 rest) (ap time_of (sym b.same) ∙ r.1),
      subst (λ (p : IdRef × Option Given). IsIdRef 6 7 t.0.kind p.0) k.2
          (id_is_denoted 6 7 t.0.kind k.0 b.kind k.1),
      subst (λ (p : IdRef × Option Given).
          IsInfo (notification_syntax set.notifications p.0) p.0 t.0.info p.1) k.2
          (info_told set k.0 t.0.info h.0 clear b.info h.1),
      sym r.2,
    )

report_told : (set : Set) (confirmed : Bool) (tree : TreeValue) (request : Request) → NotificationsAreClear set
    → HasOctets tree → option_and_then (report_in set confirmed) (inside_under (universal 16) tree) ≡ Some request
    → DenotesReport set confirmed tree request
report_told set confirmed tree request clear octets e =
    let i = then_some (report_in set confirmed) (inside_under (universal 16) tree) request e in
    let is = inside_told (universal 16) tree i.0 i.1 in
    subst (λ t. DenotesReport set confirmed t request) (sym is)
    (inside_is set confirmed i.0 request clear (subst HasOctets is octets) i.2)

pub report_is_denoted : ReportIsDenoted
report_is_denoted set tree request clear octets =
    (report_told set false tree request clear octets, report_told set true tree request clear octets)
