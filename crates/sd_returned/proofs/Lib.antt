mod BackLemmas
mod EndLemmas
mod ReadLemmas
mod SettledLemmas
