mod DifferentCards
mod DealtOut
mod FortuneLemmas
mod StudLemmas
