-- Labels of one state more.
use Rattle.std.proofs.Common.{◌≡◌, ◌≤◌, map, sym, ℕ, ◌+◌, ◌-◌, ◌<◌, ◌^◌, List, [], ◌∷◌, ◌++◌, length, sum_by, refl, ap, ap₂, ◌∙◌, arith, length-append}
use Rattle.std.specs.Global.{Vec}
use Rattle.mdp_rows.specs.{FlatLabels.{labels_in, names_of, AreLabels}, Labelling.{Labelling}, Pieces.{pieces}, declared.labels.Labels.TheInside.{Inside}}
use Rattle.mdp_rows.proofs.Flat.Growth.{pieces-more, pieces-sum, places-more}

same_labelling : (x y : Labelling) → x.names ≡ y.names → x.of_state ≡ y.of_state → x ≡ y
same_labelling x y n s = λ i. record { names = n i; of_state = s i }

abbrev pub with_parts : Inside → Vec ℕ → Vec ℕ → Inside
with_parts a starts places = record a { starts = starts; places = places }

pub same_labels : (a : Inside) (starts places : Vec ℕ) → starts.items ≡ a.starts.items → places.items ≡ a.places.items → labels_in (with_parts a starts places) ≡ labels_in a
unfolding labels_in
same_labels a starts places s p = same_labelling _ _ refl (ap₂ (λ (x y : List ℕ). pieces x y) p s)

pub no_labels : (a : Inside) → names_of a.names ≡ [] → a.starts.items ≡ 0 ∷ [] → a.places.items ≡ [] → labels_in a ≡ record { names = []; of_state = [] }
unfolding labels_in
no_labels a n s p = same_labelling _ _ n (ap₂ (λ (x y : List ℕ). pieces x y) p s)

pub few_label_places : (a : Inside) (ps us : List ℕ) → AreLabels a → us ≡ a.places.items ++ ps → sum_by length (Labelling.of_state (labels_in a)) + length ps < 2 ^ 32 → length us < 2 ^ 32
unfolding labels_in
few_label_places a ps us ok e h =
    let t = pieces-sum a.places.items a.starts.items ok.places in
    let l = ap length e ∙ length-append a.places.items ps in
    omega arith

module _ (a : Inside) (starts places : Vec ℕ) (ps : List ℕ) (n : ℕ) (ok : AreLabels a) (grown : places.items ≡ a.places.items ++ ps) (end : n ≡ length places.items)
    (placed : starts.items ≡ a.starts.items ++ n ∷ []) where
  ends : n ≡ length (a.places.items ++ ps)
  ends = end ∙ ap length grown

  pub labels_grown : labels_in (with_parts a starts places) ≡ record { names = Labelling.names (labels_in a); of_state = Labelling.of_state (labels_in a) ++ ps ∷ [] }
  unfolding labels_in
  labels_grown = same_labelling _ _ refl (ap₂ (λ (x y : List ℕ). pieces x y) grown placed ∙ pieces-more a.places.items ps a.starts.items n ok.places ends)

  pub are_labels_grown : length a.starts.items < 2 ^ 32 - 1 → length places.items < 2 ^ 32 → AreLabels (with_parts a starts places)
  are_labels_grown few less = record {
    places = rw (placed, ← end) (places-more a.starts.items (length a.places.items) n ok.places (let l = ends ∙ length-append a.places.items ps in omega arith));
    few_states = let l = ap length placed ∙ length-append a.starts.items (n ∷ []) in omega arith;
    few_places = less;
    few_names = ok.few_names;
  }

-- ---- one name more, from where n has its names

module _ (a n : Inside) (starts : n.starts ≡ a.starts) (places : n.places ≡ a.places) where
  pub names_grown : (v : Labelling) (to : List (List ℕ)) → labels_in a ≡ v → names_of n.names ≡ to → labels_in n ≡ record { names = to; of_state = v.of_state }
  unfolding labels_in
  names_grown v to is e =
      same_labelling _ _ e (ap₂ (λ (x y : Vec ℕ). pieces x.items y.items) places starts ∙ ap (λ (x : Labelling). x.of_state) is)

  pub are_labels_named : AreLabels a → length n.names.keys ≤ 2 ^ 10 → AreLabels n
  are_labels_named ok few = record {
    places = rw (starts, places) ok.places;
    few_states = rw starts ok.few_states;
    few_places = rw places ok.few_places;
    few_names = few;
  }

pub same_names : (v : Labelling) (to : List (List ℕ)) → to ≡ v.names → v ≡ record { names = to; of_state = v.of_state }
same_names v to e = same_labelling _ _ (sym e) refl

pub names_unchanged : (a n : Inside) → n.starts ≡ a.starts → n.places ≡ a.places → n.names.keys ≡ a.names.keys → labels_in n ≡ labels_in a
unfolding labels_in
names_unchanged a n s p k = same_labelling _ _ (ap (map (λ (v : Vec ℕ). v.items)) k) (ap₂ (λ (x y : Vec ℕ). pieces x.items y.items) p s)
