use Rattle.std.proofs.Common.{ℕ, sym, ap, ◌∙◌, arith}
use Rattle.std.specs.{Global.{Vec}, Str.{bytes_eq}}
use Rattle.mdp_rows.proofs.Flat.Names.{first_is, none_is}
use Rattle.mdp_rows.proofs.choices.place_in.Goals as goal

pub returns-then-eq : goal.returns-then-eq
returns-then-eq c =
    let here = ap (λ (v : Vec ℕ). bytes_eq c.args.name.now v.items) (sym c.index-names-m.is) ∙ sym (ap (bytes_eq c.args.name.now) c.as_slice.ensures.value) ∙ sym (c.if-eq.ensures {u = tt}) in
    first_is (λ (v : Vec ℕ). bytes_eq c.args.name.now v.items) c.args.names.now c.loop-m.m c.index-names-m.result c.loop-m-test.true
    (λ k. c.loop-m.invariant k c.index-names-m.result) here

pub returns : goal.returns
returns c = none_is (λ (v : Vec ℕ). bytes_eq c.args.name.now v.items) c.args.names.now (λ k d l. c.loop-m.invariant k d (omega arith))
