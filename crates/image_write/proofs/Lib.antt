mod Writing
mod Savings
