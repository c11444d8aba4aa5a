pub mod PacketLemmas
pub mod StreamLemmas
pub mod FeederLemmas
pub mod EveryStream
