use Rattle.std.proofs.Common.{◌≡◌, ◌<◌, ◌^◌, take}
use Rattle.ascii.specs.Decimals.{number}
use Rattle.ascii.proofs.number_within.Given as goal

abbrev pub invariant-loop-digit : goal.invariant-loop-digit
invariant-loop-digit l = record {
  so_far : l.value ≡ number (take l.digit-index l.digits);
  fits : l.value < 2 ^ 64;
}
