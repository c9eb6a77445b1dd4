-- The first clauses behind it with its key, and with a writer, are found in the index of those.
use Rattle.std.proofs.Common.{◌≡◌, ◌+◌, ap, subst, ◌∙◌}
use native.Mathlib.Omega.{arith}
use Rattle.term.specs.Words.{link_to}
use Rattle.run_index.specs.Index.{key_of, functor_of, FirstOf, HasKey}
use Rattle.run_index.proofs.First.{first_few}
use Rattle.run_index.proofs.Joining.{joined}
use Rattle.run_index.proofs.build.enter.Goals as goal

pub put-requires : goal.put-requires
put-requires c =
    let (clauses, e) = c.requires in
    let k = c.args.k in (
      omega (arith, e.number, e.heads.few),
      first_few _ _ _ c.find-same.result e.heads.few (c.find-same.ensures (k + 1) clauses e.behind),
      first_few _ _ _ c.find-opened.result e.heads.few (c.find-opened.ensures (k + 1) clauses e.behind),
      e.heads.inside,
    )

pub returns : goal.returns
returns c =
    let s = c.args.s.now in
    let k = c.args.k in
    let key : c.key.result ≡ key_of (functor_of s k) 0 = c.key.ensures ∙ ap (λ w. key_of w 0) c.functor_of.ensures in
    λ clauses e. joined e c.put.ensures c.own_key-own.ensures (c.find-same.ensures (k + 1) clauses e.behind)
    (subst (λ q. FirstOf (HasKey s q) (k + 1) clauses (link_to c.find-opened.result)) key (c.find-opened.ensures (k + 1) clauses e.behind))
