mod Judging
mod Sums
