-- The table is held against the definition at each of the 256 bytes, by computing.
use Rattle.std.proofs.Common.{arith, refl}
use Rattle.deb_version.proofs.ByteTables.{agree_below, from_table}
use Rattle.dep_fields.specs.declared.tokens.TheConstants.{NAME_BYTES}
use Rattle.dep_fields.specs.Tokens.{is_name_byte}
use Rattle.dep_fields.proofs.tokens.is_name_byte.Goals as goal

pub returns : goal.returns
unfolding agree_below
returns c = from_table is_name_byte NAME_BYTES c.args.byte (omega arith) refl
