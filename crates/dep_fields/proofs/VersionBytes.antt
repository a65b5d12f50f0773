-- The bytes that a version is made of.
pub use Rattle.deb_version.proofs.VersionBytes.{is_version_byte, version-bytes, version-some}
