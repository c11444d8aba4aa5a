mod Appended
mod AskedLemmas
pub mod CommandLemmas
pub mod ConverseLemmas
pub mod ExchangeLemmas
pub mod HeaderLemmas
pub mod OutLemmas
mod PacketSteps
mod PhaseLemmas
pub mod ReadLemmas
mod SessionsOver
mod SignalLemmas
pub mod SpanLemmas
mod SpanPackets
pub mod StandingLemmas
pub mod TakeLemmas
pub mod TalkLemmas
mod TalkTurns
pub mod TalksLemmas
pub mod TextLemmas
pub mod TurnLemmas
mod TurnLists
