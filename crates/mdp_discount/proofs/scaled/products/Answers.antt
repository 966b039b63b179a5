use Rattle.std.proofs.Common.{◌≡◌, ◌∙◌, ◌+◌, ◌<◌, ◌++◌, ◌∷◌, ℕ, suc, Bool, true, false, cond, List, [], length, drop, Option, Some, None, refl, sym, ap, ap₂, arith, get_or}
use Rattle.std.proofs.{lemmas.List.{append-nil, get_or_default}, Math.Seq.{drop-length}}
use Rattle.mdp_math.specs.{Written.{written_mul}, Rational.{ℚ}}
use Rattle.mdp_spec.specs.{Mdp.{Entry}, Row.{entries}}
use Rattle.mdp_discount.specs.{Problem.{scaled_entries, products_fit}, ScaledView.{entries_in}}
use Rattle.mdp_discount.proofs.Products.{next-entry, entry-made, fits-next, fits-none}
use Rattle.mdp_discount.proofs.scaled.products.Goals as goal

pub loop-i-init : goal.loop-i-init
loop-i-init c = record {
  kept = ap₂ (λ (ts : List ℕ) (ps : List ℚ). entries ts ps ++ scaled_entries c.args.factor.now (entries c.args.row.targets.now c.args.row.probs.now)) (c.in_ok-with_capacity.ensures {u = tt}).items
      (c.in_ok-with_capacity-2.ensures {u = tt}).items;
  fits = refl;
  same_length = ap length (c.in_ok-with_capacity.ensures {u = tt}).items ∙ sym (ap length (c.in_ok-with_capacity-2.ensures {u = tt}).items);
}

none_by : (b : Bool) (es : List Entry) → false ≡ b → None ≡ cond b (Some es) None
none_by true es e = cc
none_by false es e = refl

some_by : (b : Bool) (xs es : List Entry) → true ≡ b → xs ≡ es → (let o : Option (List Entry) = Some xs in o) ≡ cond b (Some es) None
some_by true xs es e h = ap Some h
some_by false xs es e h = cc

-- the entry at place i
entry-at : (ts : List ℕ) (ps : List ℚ) (i next t : ℕ) (p q : ℚ) → length ts ≡ length ps → i < length ts → next ≡ suc i → t ≡ get_or ts i t → p ≡ get_or ps i p
    → entries (drop i ts) (drop i ps) ≡ record { target = t; prob = p } ∷ entries (drop next ts) (drop next ps)
entry-at ts ps i next t p q same l n e d =
    next-entry ts ps i next t p same l n
    ∙ ap₂ (λ (t : ℕ) (p : ℚ). record { target = t; prob = p } ∷ entries (drop next ts) (drop next ps)) (sym e) (sym d)

pub returns-in_default-clause-entries : goal.returns-in_default-clause-entries
returns-in_default-clause-entries c =
    let ts = c.args.row.targets.now in
    let ps = c.args.row.probs.now in
    let f = c.args.factor.now in
    let i = c.loop-i.i in
    none_by (products_fit f (entries ts ps)) (scaled_entries f (entries ts ps))
    (fits-none f (entries (drop i ts) (drop i ps)) (entries (drop (suc i) ts) (drop (suc i) ps)) (products_fit f (entries ts ps)) (get_or ts i 0) c.index-row-i.result
    (next-entry ts ps i (suc i) 0 c.index-row-i.result c.args.row.same_length c.loop-i-test.true refl
    ∙ ap (λ (p : ℚ). record { target = get_or ts i 0; prob = p } ∷ entries (drop (suc i) ts) (drop (suc i) ps)) (sym c.index-row-i.is))
    (c.in_default.ensures {u = tt} ∙ ap (written_mul f) (sym c.index-row-i.is)) c.loop-i.invariant.fits)

pub push-requires : goal.push-requires
push-requires c = c.loop-i.invariant.same_length

pub loop-i-preserved : goal.loop-i-preserved
loop-i-preserved c =
    let ts = c.args.row.targets.now in
    let ps = c.args.row.probs.now in
    let f = c.args.factor.now in
    let i = c.loop-i.i in
    let rest = entries (drop (i + 1) ts) (drop (i + 1) ps) in
    let next : i + 1 ≡ suc i = omega arith in
    let here : entries (drop i ts) (drop i ps) ≡ record { target = (get_or ts i 0); prob = c.index-row-i.result } ∷ rest =
    entry-at ts ps i (i + 1) (get_or ts i 0) c.index-row-i.result c.index-row-i.result c.args.row.same_length c.loop-i-test.true next (get_or_default ts i 0
    (get_or ts i 0) c.loop-i-test.true) c.index-row-i.is in
    let told : Some c.in-Ok.prob ≡ written_mul f c.index-row-i.result = c.in-Ok.ensures {u = tt} ∙ ap (written_mul f) (sym c.index-row-i.is) in
    record {
      kept =
          entry-made f (entries_in c.loop-i.made) (entries_in c.push.new.self) (entries (drop i ts) (drop i ps)) rest (scaled_entries f (entries ts ps)) (get_or ts i 0) c.index-row-i.result
          c.in-Ok.prob here told (c.in_ok-push.ensures {u = tt}).entries c.loop-i.invariant.kept;
      fits = fits-next f (entries (drop i ts) (drop i ps)) rest (products_fit f (entries ts ps)) (get_or ts i 0) c.index-row-i.result c.in-Ok.prob here told c.loop-i.invariant.fits;
      same_length = (c.in_ok-push.ensures {u = tt}).same_length;
    }

pub returns-clause-entries : goal.returns-clause-entries
returns-clause-entries c =
    let ts = c.args.row.targets.now in
    let ps = c.args.row.probs.now in
    let f = c.args.factor.now in
    let i = c.loop-i.i in
    let end : i ≡ length ts = omega arith in
    let nothing : entries (drop i ts) (drop i ps) ≡ [] = ap (λ (k : ℕ). entries (drop k ts) (drop k ps)) end ∙ ap (λ (us : List ℕ). entries us (drop (length ts) ps)) (drop-length ts) in
    some_by (products_fit f (entries ts ps)) (entries_in c.loop-i.made) (scaled_entries f (entries ts ps)) (sym (ap (products_fit f) nothing) ∙ c.loop-i.invariant.fits)
    (sym (append-nil (entries_in c.loop-i.made)) ∙ ap (λ (es : List Entry). entries_in c.loop-i.made ++ scaled_entries f es) (sym nothing) ∙ c.loop-i.invariant.kept)

pub returns-clause-same_length : goal.returns-clause-same_length
returns-clause-same_length c = c.loop-i.invariant.same_length
