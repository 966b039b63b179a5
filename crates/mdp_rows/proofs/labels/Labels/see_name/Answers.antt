use Rattle.std.proofs.{Common.{◌≡◌, ◌≤◌, ◌^◌, List, ℕ, map, length, refl, ap, sym, subst, ◌∙◌, arith}, lemmas.List.{length-map}}
use Rattle.std.specs.{Global.{Vec}, List.{position_or_len}, Str.{bytes_eq}}
use Rattle.mdp_rows.specs.Draft.{with_name}
use Rattle.mdp_rows.proofs.{Flat.Labels.{names_are}, Flat.LabelsGrown.{names_grown, are_labels_named, same_names, names_unchanged}}
use Rattle.mdp_rows.proofs.{Flat.Names.{seen_before, place_is, with_name-keys}, Flat.RowsGrown.{on_err_of}}
use Rattle.mdp_rows.proofs.labels.Labels.see_name.Goals as goal

pub returns-in-Some-clause-place : goal.returns-in-Some-clause-place
returns-in-Some-clause-place c = (seen_before c.self.inside.names.keys _ c.args.name.now (names_are _ _ c.self.view_is) _ (sym c.get_index_of.ensures.index ∙ c.in-Some.is)).0

pub returns-in-Some-clause-seen : goal.returns-in-Some-clause-seen
returns-in-Some-clause-seen c = same_names c.args.self.now _
    (seen_before c.self.inside.names.keys _ c.args.name.now (names_are _ _ c.self.view_is) _ (sym c.get_index_of.ensures.index ∙ c.in-Some.is)).1

pub returns-in_err-place-clause-unchanged : goal.returns-in_err-place-clause-unchanged
returns-in_err-place-clause-unchanged c = on_err_of c.from_residual-in_err-place.result (names_unchanged c.self.inside _ refl refl (c.in_err-place.ensures {u = tt}).err ∙ c.self.view_is)

pub invariant_of-self-2 : goal.invariant_of-self-2
invariant_of-self-2 c =
    let n = names_are _ _ c.self.view_is in
    let k = c.in_ok-from_slice.field-0 in
    let f = (c.in_ok-from_slice.ensures {u = tt}).items in
    let e : map (λ v. v.items) c.insert_full.new.self.keys ≡ with_name c.args.self.now.names c.args.name.now =
    ap (λ (ks : List (Vec ℕ)). map (λ v. v.items) ks) (c.in_ok-place.ensures {u = tt}).keys ∙ with_name-keys c.self.inside.names.keys k
    ∙ ap (with_name (map (λ v. v.items) c.self.inside.names.keys)) f ∙ ap (λ (x : List (List ℕ)). with_name x c.args.name.now) n in
    let l = length-map c.insert_full.new.self.keys (λ (v : Vec ℕ). v.items) in
    let m = ap length e in
    are_labels_named c.self.inside _ refl refl c.self.invariant (omega (arith, c.requires, l, m))

pub returns-clause-place : goal.returns-clause-place
returns-clause-place c =
    let n = names_are _ _ c.self.view_is in
    (c.in_ok-place.ensures {u = tt}).index ∙ place_is c.self.inside.names.keys c.args.self.now.names c.in_ok-from_slice.field-0.items n
    ∙ ap (λ (x : List ℕ). position_or_len (bytes_eq x) c.args.self.now.names) (c.in_ok-from_slice.ensures {u = tt}).items

pub returns-clause-seen : goal.returns-clause-seen
returns-clause-seen c =
    let n = names_are _ _ c.self.view_is in
    let k = c.in_ok-from_slice.field-0 in
    let f = (c.in_ok-from_slice.ensures {u = tt}).items in
    names_grown c.self.inside _ refl refl c.args.self.now _ c.self.view_is
    (ap (λ (ks : List (Vec ℕ)). map (λ v. v.items) ks) (c.in_ok-place.ensures {u = tt}).keys ∙ with_name-keys c.self.inside.names.keys k
    ∙ ap (with_name (map (λ v. v.items) c.self.inside.names.keys)) f ∙ ap (λ (x : List (List ℕ)). with_name x c.args.name.now) n)

pub invariant_of-self-in_err-place : goal.invariant_of-self-in_err-place
invariant_of-self-in_err-place c = are_labels_named c.self.inside _ refl refl c.self.invariant
    (subst (λ (names : List (Vec ℕ)). length names ≤ 2 ^ 10) (sym (c.in_err-place.ensures {u = tt}).err) c.self.invariant.few_names)
