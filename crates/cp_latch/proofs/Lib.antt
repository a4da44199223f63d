mod Known
mod Totals
mod Steps
