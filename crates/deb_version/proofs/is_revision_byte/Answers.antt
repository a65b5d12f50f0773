-- The table is held against the definition at each of the 256 bytes, by computing.
use Rattle.std.proofs.Common.{arith, refl}
use Rattle.deb_version.specs.declared.TheConstants.{REVISION_BYTES}
use Rattle.deb_version.specs.Versions.{is_revision_byte}
use Rattle.deb_version.proofs.ByteTables.{agree_below, from_table}
use Rattle.deb_version.proofs.is_revision_byte.Goals as goal

pub returns : goal.returns
unfolding agree_below
returns c = from_table is_revision_byte REVISION_BYTES c.args.byte (omega arith) refl
