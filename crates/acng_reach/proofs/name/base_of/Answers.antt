use Rattle.std.proofs.Common.{rules, ◌≡◌, ◌∙◌, ◌+◌, true, false, Some, None, List, ℕ, [], codes, cond, take, drop, sym, ap, bytes_eq}
use Rattle.std.specs.Option.{unwrap_or}
use Rattle.acng_base.proofs.Ranges.{rest_is_drop}
use Rattle.acng_reach.proofs.Bases.{above, above_after, above_alone}
use Rattle.acng_reach.proofs.name.base_of.Goals as goal

pub returns-then-eq : goal.returns-then-eq
returns-then-eq c =
    let folder : List ℕ = c.args.folder.now in
    let rest : List ℕ = c.loop-at.rest.now in
    let at = c.in-Some.at in
    let here : bytes_eq (drop (at + 1) rest) (codes "dists") ≡ true =
    ap (λ t. bytes_eq t (codes "dists")) (sym (rest_is_drop (at + 1) rest))
    ∙ ap (bytes_eq _) (sym c.as_slice.ensures) ∙ sym c.eq.ensures ∙ c.if-eq.true in
    let step = above_after rest at (search rules) (search rules) (search rules) in
    let found = ap (λ b. cond b (Some (take at rest)) (above (take at rest))) here in
    sym (ap (λ o. unwrap_or o folder) (c.loop-at.invariant ∙ step ∙ found))

pub loop-at-preserved : goal.loop-at-preserved
loop-at-preserved c =
    let rest : List ℕ = c.loop-at.rest.now in
    let at = c.in-Some.at in
    let here : bytes_eq (drop (at + 1) rest) (codes "dists") ≡ false =
    ap (λ t. bytes_eq t (codes "dists")) (sym (rest_is_drop (at + 1) rest))
    ∙ ap (bytes_eq _) (sym c.as_slice.ensures) ∙ sym c.eq.ensures ∙ c.if-eq.false in
    let step = above_after rest at (search rules) (search rules) (search rules) in
    c.loop-at.invariant ∙ step ∙ ap (λ b. cond b (Some (take at rest)) (above (take at rest))) here

pub returns-else-eq-2 : goal.returns-else-eq-2
returns-else-eq-2 c =
    let folder : List ℕ = c.args.folder.now in
    let rest : List ℕ = c.loop-at.rest.now in
    let here : bytes_eq rest (codes "dists") ≡ false =
    ap (bytes_eq rest) (sym c.as_slice-2.ensures) ∙ sym c.eq-2.ensures ∙ c.if-eq-2.false in
    let none = ap (λ b. cond b (Some []) None) here in
    sym (ap (λ o. unwrap_or o folder) (c.loop-at.invariant ∙ above_alone rest (search rules) ∙ none))
