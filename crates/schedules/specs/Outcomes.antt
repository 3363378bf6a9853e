-- The outcome of a schedule: the answers of all its statements together.
use Rattle.std.specs.Prelude.{ℕ, ◌+◌, ◌&&◌, Bool, List, [], ◌∷◌, ◌++◌, if◌then◌else◌}
use Rattle.std.specs.List.{list_all, list_any}
use Rattle.schedules.specs.Answered.{Schedule, gives}

-- whether two schedules have the same outcome: each answer in one is in the other
abbrev pub same_outcome : Schedule → Schedule → Bool
same_outcome s t = list_all (λ a. gives a t) s && list_all (λ a. gives a s) t

-- 1 if none of the schedules in `before` has the outcome of this one, else 0
abbrev pub new_outcome : List Schedule → Schedule → ℕ
new_outcome before s = if list_any (same_outcome s) before then 0 else 1

-- The number of outcomes of some schedules: each is counted at the first schedule that has it. The schedules in `before` come before.
abbrev pub count_outcomes : List Schedule → List Schedule → ℕ
count_outcomes before [] = 0
count_outcomes before (s ∷ schedules) = new_outcome before s + count_outcomes (before ++ s ∷ []) schedules
