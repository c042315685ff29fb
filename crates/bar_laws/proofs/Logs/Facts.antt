-- Facts of the crates below. Each is a clause of a public function there; this is the one file that names their proofs.
-- of bar_case: good_openings_have_their_digests, what_opens_badly_stays_so, own_key_never_opens_badly, sealed_has_its_length, keystreams_have_their_length
pub use Rattle.bar_case.proofs.Longer.{good_told, bad_stays}
pub use Rattle.bar_case.proofs.OwnKey.{own_key, length_sealed}
pub use Rattle.bar_case.proofs.Stream.{length_keystream}
-- of bar_terms: promises_are_equally_long, valid_terms_can_promise
pub use Rattle.bar_terms.proofs.Equal.{promises_equal, promises_some, promises_few, terms_promise, empty_terms}
-- of bar_seeds: own_seeds_meet_the_anchor, seeds_are_tested, partners_are_other_peers, hashes_have_32_bytes
pub use Rattle.bar_seeds.proofs.SeedLemmas.{own_seed, seed_test}
pub use Rattle.bar_seeds.proofs.PartnerLemmas.{partner_low, partner_high, partner_other}
pub use Rattle.bar_seeds.proofs.Lengths.{length-chain_back, length-nonce_of, length-briefcase_key, length-commitment_of}
-- of bar_seal: leaves_are_few, leaves_name_messages, identities_name_messages; LmsScheme's law signed_is_accepted, and the length of what is signed
pub use Rattle.bar_wire.proofs.ExchangeBy.{round-by}
pub use Rattle.bar_seal.proofs.Slots.{leaves_few, peers_named, caster_named}
pub use Rattle.bar_seal.proofs.Named.{same_names}
pub use Rattle.bar_lms.proofs.SchemeLemmas.{signed_accepted, signed_long, signed_names}
pub use Rattle.bar_session.proofs.Levels.{session_short}
-- of bar_wire: the_datagram_is_spelled, bytes_spell_one
pub use Rattle.bar_wire.proofs.Told.{only_told, is_told}
-- of bar_window: sets_pass_their_test, bytes_are_those_of_the_words
pub use Rattle.bar_window.proofs.Spelling.{set_test, set_passes, length_window_bytes}
-- of the library sha2: a digest has 32 bytes
pub use Rattle.sha2.proofs.Facts256.{length-sha256}
