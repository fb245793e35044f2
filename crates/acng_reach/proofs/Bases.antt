-- The base of a repository, slash by slash from the last one back.
use Rattle.std.proofs.Common.{◌≡◌, ℕ, ◌+◌, ◌≤◌, ◌<◌, false, Option, Some, None, List, [], ◌∷◌, cond, codes, length, take, drop, reverse, refl, sym, ap, ◌∙◌, get_or, bytes_eq}
use Rattle.acng_base.specs.Paths.{segments, is_slash}
use Rattle.acng_base.specs.Names.{folder_of}
use Rattle.acng_base.proofs.Folders.{segments_around, segments_alone, folder_after, folder_alone}
use Rattle.acng_reach.specs.Names.{before_dists}

-- by the segments of a text
abbrev pub above : List ℕ → Option (List ℕ)
above text = before_dists (reverse (segments text)) text

pub above_after : (text : List ℕ) (i : ℕ) → i < length text → get_or text i 0 ≡ 47
    → ((k : ℕ) → i + 1 ≤ k → k < length text → is_slash (get_or text k 0) ≡ false)
    → above text ≡ cond (bytes_eq (drop (i + 1) text) (codes "dists")) (Some (take i text)) (above (take i text))
above_after text i inside here after =
    ap (λ ss. before_dists ss text) (segments_around text i inside here after)
    ∙ ap (λ f. cond (bytes_eq (drop (i + 1) text) (codes "dists")) (Some f) (before_dists (reverse (segments (take i text))) f))
    (sym (folder_after text i inside here after))

pub above_alone : (text : List ℕ) → ((k : ℕ) → k < length text → is_slash (get_or text k 0) ≡ false)
    → above text ≡ cond (bytes_eq text (codes "dists")) (Some []) None
above_alone text none =
    ap (λ ss. before_dists ss text) (segments_alone text none)
    ∙ ap (λ f. cond (bytes_eq text (codes "dists")) (Some f) None) (sym (folder_alone text none))
