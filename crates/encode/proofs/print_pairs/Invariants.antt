-- One pair after the other.
use Rattle.std.proofs.Common.{◌≡◌, ◌+◌, ◌-◌, ◌≤◌}
use Rattle.table.specs.Words.{Ahead}
use Rattle.encode.proofs.print_pairs.Given as goal

abbrev pub invariant-loop : goal.invariant-loop
invariant-loop g l =
    (l.counter ≤ l.p)
    × (l.p ≤ 256)
    × Ahead l.words (l.p - l.counter) l.at
    × (l.switch ≡ l.initial.switch + l.counter)
    × (l.end ≤ 65536)
